-- `lent::log_words` meets its contract. Assumes nothing.
use native.Mathlib.Omega.{arith}
use mathlib.Core.Path.{ap, ◌∙◌}
use lib.ListN.{length}
use Rattle.lent.specs.Lay.{piece_in, piece-long}
use Rattle.lent.specs.Words.{Log, size, from}
use Rattle.lent.proofs.log_words.Goals as goal

pub part-requires : goal.part-requires
unfolding from size
part-requires c = omega (arith, piece_in c.args.b.now c.requires Log)

pub returns : goal.returns
unfolding from size
returns c =
    (c.part.ensures, ap length c.part.ensures ∙ piece-long c.args.b.now c.requires Log)
