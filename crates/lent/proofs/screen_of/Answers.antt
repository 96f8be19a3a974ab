-- `lent::screen_of` meets its contract. Assumes nothing.
use native.Mathlib.Omega.{arith}
use Rattle.lent.specs.Held.{held-long, screen-word}
use Rattle.lent.specs.Words.{from, book_long}
use Rattle.lent.proofs.screen_of.Goals as goal

pub bounds-b-0 : goal.bounds-b-0
unfolding from book_long
bounds-b-0 c = omega (arith, held-long c.args.b.now c.requires)

pub returns : goal.returns
unfolding from
returns c = screen-word c.args.b.now c.requires
