-- `stamp::merge_into` meets its contract. The invariant: the merge is what is written up to i, and the merge of the
-- rest. Assumes nothing.
use mathlib.Core.Path.{◌≡◌}
use mathlib.Core.List.{◌++◌}
use lib.ListN.{take, drop}
use Rattle.stamp.specs.Stamp.{merge}
use Rattle.stamp.proofs.merge_into.Given as goal

abbrev pub invariant-loop-i : goal.invariant-loop-i
invariant-loop-i l = merge l.initial.a l.b ≡ take l.i l.a ++ merge (drop l.i l.a) (drop l.i l.b)
