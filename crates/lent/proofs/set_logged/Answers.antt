-- `lent::set_logged` meets its contract. Assumes nothing.
use native.Mathlib.Omega.{arith}
use mathlib.Core.Path.{refl}
use Rattle.lent.specs.Words.{from, book_long}
use Rattle.lent.proofs.set_logged.Goals as goal

pub bounds-b-2 : goal.bounds-b-2
unfolding book_long
bounds-b-2 c = omega arith

pub returns : goal.returns
unfolding from
returns c = refl
