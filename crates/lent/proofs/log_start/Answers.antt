-- `lent::log_start` meets its contract. Assumes nothing.
use mathlib.Core.Path.{refl}
use Rattle.lent.specs.Words.{from}
use Rattle.lent.proofs.log_start.Goals as goal

pub returns : goal.returns
unfolding from
returns c = refl
