-- `lent::log_end` meets its contract. Assumes nothing.
use mathlib.Core.Path.{refl}
use Rattle.lent.specs.Words.{from, size}
use Rattle.lent.proofs.log_end.Goals as goal

pub returns : goal.returns
unfolding from size
returns c = refl
