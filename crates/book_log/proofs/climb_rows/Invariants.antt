-- `book_log::climb_rows` meets its contract. The invariant: what is written is the climb by the rows so far. Assumes
-- nothing.
use mathlib.Core.Path.{◌≡◌}
use lib.ListN.{take}
use Rattle.std.specs.List.{fold}
use Rattle.book_log.specs.Held.{climbed}
use Rattle.book_log.specs.Region.{record_at}
use Rattle.book_log.proofs.climb_rows.Given as goal

abbrev pub invariant-loop-row : goal.invariant-loop-row
invariant-loop-row l = l.reached ≡ fold (λ s row. climbed s (record_at row)) l.initial.reached (take l.row-index l.rows)
