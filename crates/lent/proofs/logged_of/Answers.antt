-- `lent::logged_of` meets its contract. Assumes nothing.
use native.Mathlib.Omega.{arith}
use Rattle.limits.specs.LimitLaws.{log_small}
use Rattle.lent.specs.Held.{held-long, logged-word}
use Rattle.lent.specs.Words.{from, book_long}
use Rattle.lent.proofs.logged_of.Goals as goal

pub bounds-b-2 : goal.bounds-b-2
unfolding from book_long
bounds-b-2 c = omega (arith, held-long c.args.b.now c.requires)

pub returns : goal.returns
unfolding from
returns c =
    let e = logged-word c.args.b.now c.requires in
    (e, omega (arith, e, c.requires.shape.log-few), omega (arith, e, c.requires.shape.log-few, log_small))
