-- Why a gossip is refused, as a number: the first of the refusals' tests, in their order, that holds, and zero if none
-- does. Assumes nothing.
use Rattle.std.specs.Prelude.{ℕ, zero, suc, ◌+◌, not, ◌||◌, cond, eqb, ltb, length, Result, Ok, Err}
use Rattle.limits.specs.Limits.{log_room, book_room}
use Rattle.stamp.specs.Stamp.{Stamp, part, total, merge, at_most}
use Rattle.ledger.specs.Log.{gapless}
use Rattle.ledger.specs.Message.{Message}
use Rattle.wire.specs.Refusal.{table_number}
use Rattle.wire.specs.declared.Refusal.{Refusal}
use Rattle.meaning.specs.Book.{Book, row, known}
use Rattle.meaning.specs.Step.{new_ones}

-- what the code answers, as a number: zero where nothing is refused
abbrev pub refused_number : Result (Unit {0}) Refusal → ℕ
refused_number (Ok u) = 0
refused_number (Err r) = table_number r

-- the first number, unless it is zero
abbrev pub unless : ℕ → ℕ → ℕ
unless zero k = k
unless (suc j) k = suc j

-- old, crossed: by the sender's row
unfoldable pub row_refusal : Stamp → Stamp → ℕ
row_refusal s m = cond (at_most m s) 4 (cond (not (at_most s m)) 5 0)

-- part i of m exceeds our own, spent: by the known stamp
unfoldable pub own_refusal : Stamp → ℕ → Stamp → ℕ
own_refusal s i m = cond (ltb (part s i) (part m i)) 6 (cond (ltb book_room (total (merge s m))) 7 0)

-- all that is looked for before the records are: another N, or j is i, and then the stamp
unfoldable pub stamp_refusal : Book → ℕ → ℕ → Stamp → ℕ
stamp_refusal b j n m = cond (not (eqb n b.screens) || eqb j b.me) 2
    (unless (row_refusal (row b j) m) (own_refusal (known b) b.me m))

-- gap, no room: by the records
unfoldable pub record_refusal : Book → Message → ℕ
record_refusal b m = cond (not (gapless b.screens (known b) m)) 8
    (cond (ltb log_room (length b.log + length (new_ones b m))) 9 0)
