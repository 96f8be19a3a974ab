-- `stamp::put_parts` meets its contract. Assumes nothing.
use Prim.Native.Nat.{◌+◌, ◌-◌}
use native.Mathlib.Omega.{arith}
use mathlib.Core.Path.{◌≡◌}
use Rattle.lists.specs.Part.{patch}
use Rattle.limits.specs.Limits.{parts}
use Rattle.stamp.proofs.put_parts.Goals as goal

pub returns : goal.returns
unfolding patch
returns c =
    let at = c.args.at in
    let e : at + parts - at ≡ parts = omega arith in
    rw (c.copy_from_slice.ensures.after, c.list_of-s.ensures, e)
