-- `lent::put_at` meets its contract. Assumes nothing.
use Rattle.lists.specs.Part.{mid, patch}
use borrow.Author.Rules.{rules}
use Rattle.lent.proofs.put_at.Goals as goal

pub put_one-requires : goal.put_one-requires
unfolding mid patch
put_one-requires c =
    record {
      row_long_in_bounds = search rules;
      fresh = c.requires.fresh;
    }

pub returns : goal.returns
unfolding mid patch
returns c = cc
