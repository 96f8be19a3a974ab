-- `stamp::merge_into` meets its contract. Assumes nothing.
use native.Mathlib.Omega.{arith}
use mathlib.Core.Path.{sym, ◌∙◌}
use Rattle.stamp.proofs.Step.{merge-more, merge-end}
use Rattle.stamp.proofs.merge_into.Goals as goal

pub loop-i-preserved : goal.loop-i-preserved
loop-i-preserved c = c.loop-i.invariant ∙ merge-more _ _ c.loop-i.i (omega arith) (omega arith) _ c.max.ensures

pub returns : goal.returns
returns c = sym (c.loop-i.invariant ∙ merge-end c.loop-i.a c.args.b.now c.loop-i.i (omega arith) (omega arith))
