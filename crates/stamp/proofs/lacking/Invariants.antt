use Rattle.std.proofs.Common.{◌≡◌, ◌<◌, ◌^◌, drop}
use Rattle.limits.specs.Limits.{parts}
use Rattle.stamp.specs.Stamp.{excess}
use Rattle.stamp.proofs.lacking.Given as goal

abbrev pub invariant-loop-i : goal.invariant-loop-i
invariant-loop-i l = (l.n ≡ excess (drop l.i l.a) (drop l.i l.b)) × (l.n < 2 ^ parts)
