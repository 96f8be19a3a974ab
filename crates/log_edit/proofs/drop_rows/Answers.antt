-- `log_edit::drop_rows` meets its contract. Assumes nothing.
use native.Mathlib.Omega.{arith}
use mathlib.Core.Path.{◌≡◌, sym, ◌∙◌}
use Rattle.log_edit.proofs.Drop.{closing_start, closing-off, closing-on, closing_end, kept-length}
use Rattle.log_edit.proofs.drop_rows.Goals as goal

pub loop-i-init : goal.loop-i-init
loop-i-init c =
    let s = c.args in
    closing_start s.ready.now s.low.now s.count s.r.now

pub loop-i-preserved-then-goes_at : goal.loop-i-preserved-then-goes_at
loop-i-preserved-then-goes_at c = closing-off c.loop-i.invariant c.loop-i-test.true
    (sym c.goes_at.ensures ∙ c.if-goes_at.true)

pub loop-i-preserved : goal.loop-i-preserved
loop-i-preserved c =
    rw c.move_row.ensures
    (closing-on c.loop-i.invariant c.loop-i-test.true
    c.requires (sym c.goes_at.ensures ∙ c.if-goes_at.false))

pub returns : goal.returns
returns c =
    let e : c.args.count ≡ c.loop-i.i = omega arith in
    record {
      words = closing_end c.loop-i.invariant e _ c.requires c.clear.ensures;
      count = kept-length c.loop-i.invariant e;
      fewer = omega arith;
    }
