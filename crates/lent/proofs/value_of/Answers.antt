-- `lent::value_of` meets its contract. Assumes nothing.
use native.Mathlib.Omega.{arith}
use mathlib.Core.Path.{ap, ◌∙◌}
use Rattle.lists.specs.Part.{mid}
use Rattle.stamp.specs.Parts.{list_of}
use Rattle.stamp.specs.PartsLaws.{list-parts}
use Rattle.lent.specs.Held.{piece-within, piece-words}
use Rattle.lent.specs.Words.{Value, size, from}
use Rattle.lent.proofs.value_of.Goals as goal

pub parts_at-requires : goal.parts_at-requires
unfolding from size
parts_at-requires c = omega (arith, piece-within c.args.b.now c.requires Value)

pub returns : goal.returns
unfolding from size mid
returns c =
    let ws = c.args.b.now in
    ap list_of c.parts_at.ensures ∙ list-parts (from Value) ws (piece-within ws c.requires Value)
    ∙ piece-words ws c.requires Value
