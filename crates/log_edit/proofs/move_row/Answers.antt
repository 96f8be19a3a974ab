-- `log_edit::move_row` meets its contract. Assumes nothing.
use Prim.Native.Nat.{◌+◌, ◌-◌, ◌*◌}
use native.Mathlib.Omega.{arith}
use mathlib.Core.Path.{◌≡◌, sym, ◌∙◌}
use Rattle.book_log.specs.Region.{row_long}
use Rattle.log_edit.proofs.Drop.{patch_self}
use Rattle.log_edit.proofs.Slide.{copied}
use Rattle.log_edit.proofs.move_row.Goals as goal

pub returns-then-to-from : goal.returns-then-to-from
returns-then-to-from c =
    let s = c.args in
    sym (rw c.if-to-from.true (patch_self (s.from * row_long) row_long s.r.now))

pub returns : goal.returns
returns c =
    let s = c.args in
    let at = s.from * row_long in
    let e : at + row_long - at ≡ row_long = omega arith in
    c.copy_within.ensures.after ∙ copied s.r.now at (at + row_long) (s.to * row_long) ∙ rw e
