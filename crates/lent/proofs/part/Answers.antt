-- `lent::part` meets its contract. Assumes nothing.
use mathlib.Core.Path.{refl}
use Rattle.lists.specs.Part.{mid}
use Rattle.lent.proofs.part.Goals as goal

pub returns : goal.returns
unfolding mid
returns c = refl
