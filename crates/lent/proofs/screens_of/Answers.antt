-- `lent::screens_of` meets its contract. Assumes nothing.
use native.Mathlib.Omega.{arith}
use Rattle.lent.specs.Held.{held-long, screens-word}
use Rattle.lent.specs.Words.{from, book_long}
use Rattle.lent.proofs.screens_of.Goals as goal

pub bounds-b-1 : goal.bounds-b-1
unfolding from book_long
bounds-b-1 c = omega (arith, held-long c.args.b.now c.requires)

pub returns : goal.returns
unfolding from
returns c =
    let e = screens-word c.args.b.now c.requires in
    (e, omega (arith, e, c.requires.shape.screens-few))
