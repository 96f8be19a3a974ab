-- For the code: today the ready stamp of a book is its known stamp. Order 7 retires this law; no other proof opens the
-- name `ready_stamp` but the three of ledger's ReadyLaws. Assumes nothing.
use Rattle.std.specs.Prelude.{◌≡◌, refl}
use Rattle.ledger.specs.Log.{ready_stamp}
use Rattle.meaning.specs.Book.{Book, known, ready}

pub ready-known : (b : Book) → ready b ≡ known b
unfolding ready ready_stamp
ready-known b = refl
