-- `stamp::parts_fit` meets its contract. Assumes nothing.

use Rattle.stamp.proofs.parts_fit.Goals as goal

pub returns : goal.returns
returns c = cc
