-- `stamp::at_most` meets its contract. Assumes nothing.
use native.Mathlib.Omega.{arith}
use mathlib.Core.Path.{sym, ◌∙◌}
use Rattle.stamp.proofs.Step.{at-most-on, at-most-off, at-most-end}
use Rattle.stamp.proofs.at_most.Goals as goal

pub returns-then-b-i : goal.returns-then-b-i
returns-then-b-i c = sym (c.loop-i.invariant ∙ at-most-off _ _ c.loop-i.i (omega arith) (omega arith) c.if-b-i.true)

pub loop-i-preserved : goal.loop-i-preserved
loop-i-preserved c = c.loop-i.invariant ∙ at-most-on _ _ c.loop-i.i (omega arith) (omega arith) c.if-b-i.false

pub returns : goal.returns
returns c = sym (c.loop-i.invariant ∙ at-most-end _ _ c.loop-i.i c.loop-i-test.false)
