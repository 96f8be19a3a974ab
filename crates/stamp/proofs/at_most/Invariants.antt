-- `stamp::at_most` meets its contract. The invariant: what the parts from i on decide is what all decide. Assumes
-- nothing.
use mathlib.Core.Path.{◌≡◌}
use lib.ListN.{drop}
use Rattle.stamp.specs.Stamp.{at_most}
use Rattle.stamp.proofs.at_most.Given as goal

abbrev pub invariant-loop-i : goal.invariant-loop-i
invariant-loop-i l = at_most l.a l.b ≡ at_most (drop l.i l.a) (drop l.i l.b)
