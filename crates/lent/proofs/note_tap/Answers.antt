-- `lent::note_tap` meets its contract. Assumes nothing.
use native.Mathlib.Omega.{arith}
use mathlib.Core.Path.{◌∙◌}
use Rattle.meaning.specs.Book.{standing_at}
use Rattle.lent.specs.Changes.{prompt-noted}
use Rattle.lent.specs.Held.{piece-within}
use Rattle.lent.specs.Words.{Prompts, size, from, book_of}
use Rattle.lent.proofs.note_tap.Goals as goal

pub note_at-requires : goal.note_at-requires
unfolding from size standing_at book_of
note_at-requires c =
    let w = piece-within c.args.b.now c.requires.held Prompts in
    record {
      a_le_e = (omega arith, omega (arith, w), omega arith);
      counts_fit = c.requires.counts_fit;
    }

pub returns : goal.returns
unfolding from size
returns c =
    c.note_at.ensures ∙ prompt-noted c.args.b.now c.requires.held c.args.w
