-- `lent::taps_of` meets its contract. Assumes nothing.
use native.Mathlib.Omega.{arith}
use Rattle.lent.specs.Held.{held-long, taps-word}
use Rattle.lent.specs.Words.{from, book_long}
use Rattle.lent.proofs.taps_of.Goals as goal

pub bounds-b-3 : goal.bounds-b-3
unfolding from book_long
bounds-b-3 c = omega (arith, held-long c.args.b.now c.requires)

pub returns : goal.returns
unfolding from
returns c =
    let e = taps-word c.args.b.now c.requires in
    (e, omega (arith, e, c.requires.shape.counted-few))
