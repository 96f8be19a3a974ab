-- `lent::ready_of` meets its contract: today the ready stamp is the known stamp. Assumes nothing.
use mathlib.Core.Path.{sym, ◌∙◌}
use Rattle.meaning.specs.ReadyKnown.{ready-known}
use Rattle.lent.specs.Words.{book_of}
use Rattle.lent.proofs.ready_of.Goals as goal

pub returns : goal.returns
returns c =
    (c.known_of.ensures.0 ∙ sym (ready-known (book_of c.args.b.now)), c.known_of.ensures.1)
