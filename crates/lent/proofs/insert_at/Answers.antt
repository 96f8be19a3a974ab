-- `lent::insert_at` meets its contract. Assumes nothing.
use Rattle.lists.specs.Part.{mid, patch}
use borrow.Author.Rules.{rules}
use Rattle.lent.proofs.insert_at.Goals as goal

pub insert_word-requires : goal.insert_word-requires
unfolding mid patch
insert_word-requires c =
    record {
      n_in_bounds = search rules;
      t = c.requires.t;
      t_2 = c.requires.t_2;
    }

pub returns : goal.returns
unfolding mid patch
returns c = cc
