-- `lent::note_at` meets its contract. Assumes nothing.
use Rattle.lists.specs.Part.{mid, patch}
use borrow.Author.Rules.{rules}
use Rattle.lent.proofs.note_at.Goals as goal

pub note-requires : goal.note-requires
unfolding mid patch
note-requires c =
    record {
      r_len = search rules;
      counts_fit = c.requires.counts_fit;
    }

pub returns : goal.returns
unfolding mid patch
returns c = rw c.note.ensures.r_after
