-- `lent::drop_at` meets its contract. Assumes nothing.
use Rattle.lists.specs.Part.{mid, patch}
use borrow.Author.Rules.{rules}
use Rattle.lent.proofs.drop_at.Goals as goal

pub drop_rows-requires : goal.drop_rows-requires
unfolding mid patch
drop_rows-requires c = search rules

pub returns : goal.returns
unfolding mid patch
returns c =
    record {
      b_after = rw c.drop_rows.ensures.words;
      value = c.drop_rows.ensures.count;
    }
