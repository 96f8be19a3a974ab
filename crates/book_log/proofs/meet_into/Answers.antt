-- `book_log::meet_into` meets its contract. Assumes nothing.
use native.Mathlib.Omega.{arith}
use mathlib.Core.Path.{sym, ◌∙◌}
use lib.ListN.{length-set}
use Rattle.book_log.proofs.Turn.{meet-more, meet-end}
use Rattle.book_log.proofs.meet_into.Goals as goal

pub loop-i-preserved : goal.loop-i-preserved
loop-i-preserved c = (
  simp length-set c.loop-i.invariant.0,
  c.loop-i.invariant.1 ∙ meet-more _ _ c.loop-i.i (omega arith) (omega arith) _ c.min.ensures,
)

pub returns : goal.returns
returns c = sym (c.loop-i.invariant.1 ∙ meet-end _ _ _ (omega arith))
