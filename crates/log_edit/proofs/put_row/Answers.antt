-- `log_edit::put_row` meets its contract. Assumes nothing.
use Prim.Native.Nat.{◌+◌, ◌-◌, ◌*◌}
use native.Mathlib.Omega.{arith}
use mathlib.Core.Path.{◌≡◌}
use Rattle.lists.specs.Part.{patch}
use Rattle.book_log.specs.Region.{row_long}
use Rattle.log_edit.proofs.put_row.Goals as goal

pub returns : goal.returns
unfolding patch
returns c =
    let at = c.args.i * row_long in
    let e : at + row_long - at ≡ row_long = omega arith in
    rw (c.copy_from_slice.ensures.after, e)
