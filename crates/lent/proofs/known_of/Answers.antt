-- `lent::known_of` meets its contract. Assumes nothing.
use native.Mathlib.Omega.{arith}
use Rattle.meaning.specs.Book.{known}
use Rattle.lent.proofs.known_of.Goals as goal

pub row_of-requires : goal.row_of-requires
row_of-requires c =
    let e = c.screen_of.ensures in
    record {
      held = c.requires.held;
      j_bound = omega (arith, e, c.requires.b_bound);
    }

pub returns : goal.returns
unfolding known
returns c = rw c.screen_of.ensures at c.row_of.ensures
