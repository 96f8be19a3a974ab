-- `stamp::part_of` meets its contract. Assumes nothing.

use Rattle.stamp.proofs.part_of.Goals as goal

pub returns : goal.returns
returns c = cc
