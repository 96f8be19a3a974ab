-- `stamp::parts_at` meets its contract. Assumes nothing.
use mathlib.Core.Path.{refl}
use Rattle.stamp.specs.Parts.{parts_at}
use Rattle.stamp.proofs.parts_at.Goals as goal

pub returns : goal.returns
unfolding parts_at
returns c = refl
