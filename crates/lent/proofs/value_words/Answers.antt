-- `lent::value_words` meets its contract. Assumes nothing.
use native.Mathlib.Omega.{arith}
use mathlib.Core.Path.{ap}
use lib.ListN.{length}
use lib.Seq.{take_all}
use Rattle.limits.specs.Limits.{parts}
use Rattle.lists.specs.Rows.{rows}
use Rattle.lent.specs.Lay.{piece_in, piece-long}
use Rattle.lent.specs.Words.{Value, size, from, piece}
use Rattle.lent.proofs.value_words.Goals as goal

pub part-requires : goal.part-requires
unfolding from size
part-requires c = omega (arith, piece_in c.args.b.now c.requires Value)

pub rows_of-requires : goal.rows_of-requires
unfolding from size
rows_of-requires c =
    (omega arith, omega (arith, ap length c.part.ensures, piece-long c.args.b.now c.requires Value))

pub returns : goal.returns
unfolding from size rows
returns c =
    let ws = c.args.b.now in
    let long = piece-long ws c.requires Value in
    rw (c.rows_of.ensures.0, c.part.ensures) (take_all parts (piece Value ws) (omega (arith, long)))
