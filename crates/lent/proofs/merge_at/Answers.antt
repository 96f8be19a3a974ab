-- `lent::merge_at` meets its contract. Assumes nothing.
use Rattle.lists.specs.Part.{mid, patch}
use Rattle.lent.proofs.merge_at.Goals as goal

pub returns : goal.returns
unfolding mid patch
returns c = cc
