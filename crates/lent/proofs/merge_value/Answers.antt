-- `lent::merge_value` meets its contract. Assumes nothing.
use native.Mathlib.Omega.{arith}
use mathlib.Core.Path.{◌∙◌}
use Rattle.lent.specs.Changes.{value-merged}
use Rattle.lent.specs.Held.{piece-within}
use Rattle.lent.specs.Words.{Value, size, from}
use Rattle.lent.proofs.merge_value.Goals as goal

pub merge_at-requires : goal.merge_at-requires
unfolding from size
merge_at-requires c =
    omega (arith, piece-within c.args.b.now c.requires Value)

pub returns : goal.returns
unfolding from size
returns c =
    c.merge_at.ensures ∙ value-merged c.args.b.now c.requires c.args.s.now
