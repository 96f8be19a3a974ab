-- `stamp::list_of` meets its contract. Assumes nothing.
use mathlib.Core.Path.{refl}
use Rattle.stamp.specs.Parts.{list_of}
use Rattle.stamp.proofs.list_of.Goals as goal

pub returns : goal.returns
unfolding list_of
returns c = refl
