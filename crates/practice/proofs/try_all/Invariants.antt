-- `practice::try_all` is safe and ends: each vector lies behind the one before. Assumes nothing.
use Prim.Native.Nat.{◌≤◌, ◌-◌}
use lib.ListN.{length}
use Rattle.practice.proofs.try_all.Given as goal

abbrev pub invariant-loop-vector : goal.invariant-loop-vector
invariant-loop-vector g l = (l.at ≤ length l.file) × (l.agreed ≤ l.total) × (l.total ≤ l.at)

abbrev pub decreases-loop-vector : goal.decreases-loop-vector
decreases-loop-vector g l = length l.file - l.at
