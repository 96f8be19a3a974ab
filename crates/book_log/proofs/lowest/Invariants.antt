-- `book_log::lowest` meets its contract. The invariant: what is written is the stamp met with the rows so far. Assumes
-- nothing.
use mathlib.Core.Path.{◌≡◌}
use lib.ListN.{take}
use Rattle.std.specs.List.{fold}
use Rattle.book_log.specs.Lowest.{meet}
use Rattle.book_log.proofs.lowest.Given as goal

abbrev pub invariant-loop-row : goal.invariant-loop-row
invariant-loop-row l = l.low ≡ fold meet l.s (take l.row-index l.table)
