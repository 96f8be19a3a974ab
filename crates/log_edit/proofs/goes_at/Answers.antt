-- `log_edit::goes_at` meets its contract. Assumes nothing.
use native.Mathlib.Omega.{arith}
use Prim.Native.Nat.{◌+◌}
use mathlib.Core.Path.{ap, ◌∙◌}
use Rattle.book_log.specs.Lowest.{goes_by}
use Rattle.book_log.specs.Walk.{row_lent}
use Rattle.log_edit.proofs.goes_at.Goals as goal

pub returns : goal.returns
returns c =
    let s = c.args in
    c.goes.ensures
    ∙ ap (goes_by s.ready.now s.low.now)
    (row_lent c.rows_of.result.now (s.i + 1) s.r.now s.i c.rows_of.ensures.0 (omega arith))
