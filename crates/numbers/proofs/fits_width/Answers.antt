-- `numbers::fits_width` meets its contract: once m is 0 it fits however many bytes are to come. Assumes nothing.
use Prim.Native.Nat.{◌-◌}
use mathlib.Core.Path.{sym, ◌∙◌}
use Rattle.numbers.proofs.Step.{width-end}
use Rattle.numbers.proofs.fits_width.Goals as goal

pub returns-then-m-eq0 : goal.returns-then-m-eq0
returns-then-m-eq0 c =
    let l = c.loop in sym (l.invariant ∙ rw c.if-m-eq0.true (width-end (c.args.w - l.counter)))
