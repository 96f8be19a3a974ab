-- `book_log::meet_into` meets its contract. The invariant: the whole is what is written up to i, and the meet of the
-- rest. Assumes nothing.
use mathlib.Core.Path.{◌≡◌}
use mathlib.Core.List.{◌++◌}
use lib.ListN.{length, take, drop}
use Rattle.book_log.specs.Lowest.{meet}
use Rattle.book_log.specs.Region.{stamp_long}
use Rattle.book_log.proofs.meet_into.Given as goal

abbrev pub invariant-loop-i : goal.invariant-loop-i
invariant-loop-i l = (length l.a ≡ stamp_long)
    × (meet l.initial.a l.b ≡ take l.i l.a ++ meet (drop l.i l.a) (drop l.i l.b))
