-- `practice::play::follow` meets its contract. The invariant: the whole comparison is that of what is left, from the
-- place that is reached. Assumes nothing.
use Prim.Native.Nat.{◌-◌, ◌≤◌}
use mathlib.Core.Path.{◌≡◌}
use lib.ListN.{length, drop}
use Rattle.program.specs.Said.{said_by, said_in}
use Rattle.vectors.specs.Compare.{compared_at}
use Rattle.practice.proofs.play.follow.Given as goal

abbrev pub invariant-loop-used : goal.invariant-loop-used
invariant-loop-used l =
    (l.at ≤ length l.input) × (l.place ≤ length l.expected) × (length l.book ≡ length l.initial.book)
    × (length l.out ≡ length l.initial.out)
    × (compared_at 0 (said_by l.initial.book l.input) l.expected
    ≡ compared_at l.place (said_in l.opened l.book (drop l.at l.input)) l.expected)

abbrev pub decreases-loop-used : goal.decreases-loop-used
decreases-loop-used l = length l.input - l.at
