-- A gossip taken in place: the rows that it raises, and the new records that come. Assumes nothing.
use Rattle.std.specs.Prelude.{ℕ, ◌<◌, ◌≡◌, ◌≢◌, List, T, length, set}
use Rattle.limits.specs.Limits.{parts}
use Rattle.stamp.specs.Stamp.{Stamp, at_most, merge}
use Rattle.ledger.specs.Log.{unknowns}
use Rattle.wire.specs.Head.{count_in}
use Rattle.message.specs.Message.{records_in}
use Rattle.arrivals.specs.Head.{Head}
use Rattle.meaning.specs.Book.{Book, row, known}

-- row j set to m, our own row to the merged stamp
unfoldable pub raised_rows : Book → ℕ → Stamp → List Stamp
raised_rows b j m = set (set b.table j m) b.me (merge (known b) m)

-- row j is another's, and at most m
pub record Raisable (b : Book) (j : ℕ) (m : Stamp) : Type 0 where
  pub row_in : j < b.screens
  pub me_in : b.me < b.screens
  pub other : j ≢ b.me
  pub long : length m ≡ parts
  pub newer : T (at_most (row b j) m)

-- a well formed message with its head as it was read, and how many of its records are not known under a stamp
pub record Coming (bytes : List ℕ) (n count : ℕ) (m known : Stamp) (new : ℕ) : Type 0 where
  pub head : Head bytes n m
  pub number : count_in bytes ≡ count
  pub new-number : new ≡ length (unknowns known (records_in bytes))
