-- `stamp::lacking` meets its contract. Assumes nothing.
use Prim.Native.Nat.{◌+◌, ◌-◌, ◌*◌}
use native.Mathlib.Omega.{arith}
use mathlib.Core.Path.{◌≡◌}
use lib.ListN.{drop, get_or, length-drop}
use Rattle.stamp.specs.Stamp.{excess}
use Rattle.stamp.specs.Laws.{excess-few}
use Rattle.stamp.proofs.Step.{excess-more, byte-over}
use Rattle.stamp.proofs.lacking.Goals as goal

pub loop-i-preserved : goal.loop-i-preserved
loop-i-preserved c =
    let s = c.args in
    let i = c.loop-i.i - 1 in
    let e : i + 1 ≡ c.loop-i.i = omega arith in
    let m : c.loop-i.n * 2 + c.from.result
    ≡ excess (drop i s.a.now) (drop i s.b.now) =
    omega (
      arith,
      byte-over (get_or s.a.now i 0) (get_or s.b.now i 0),
      rw e at (excess-more s.a.now s.b.now i
          (omega arith) (omega arith)),
    ) in
    (m, rw m (excess-few (drop i s.a.now) (drop i s.b.now) (simp length-drop (omega arith))))
