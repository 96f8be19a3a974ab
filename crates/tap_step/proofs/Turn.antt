-- Laws: what a tap needs of the book before it is written. Assumes nothing.
use Prim.Native.Nat.{ℕ, suc, ◌+◌, ◌≤◌, ◌<◌}
use native.Mathlib.Omega.{arith}
use mathlib.Core.Path.{◌≡◌, sym}
use mathlib.Core.List.{List}
use lib.Dec.{T, ltb, lt→ltb}
use lib.ListN.{length, get_or}
use Rattle.lists.specs.TestLaws.{get_or_in, get_or-every}
use Rattle.lists.specs.Tests.{every}
use Rattle.limits.specs.Limits.{parts, word}
use Rattle.stamp.specs.Stamp.{Stamp, part}
use Rattle.tally.specs.Body.{body_of, body_fits}
use Rattle.tally.proofs.BodyLaws.{word-body}
use Rattle.ledger.specs.LimitLaws.{range-parts}
use Rattle.ledger.proofs.RecordLaws.{obeys}
use Rattle.meaning.specs.Book.{Book, known}
use Rattle.meaning.specs.BookLaws.{Sound, me_in, known-fits}
use Rattle.meaning.specs.Step.{new_record}
use Rattle.lent.specs.SoundWords.{lawful-sound}
use Rattle.lent.specs.Words.{book_of, lawful}
use Rattle.lent.specs.Rows.{no_record}

-- our own number is one of the stamp's parts
pub own_small : (b : Book) → Sound b → b.me < parts
own_small b s = omega (arith, me_in b s, range-parts b.me b.screens s.range)

-- a log record's origin is one of the stamp's parts
pub logged-origin : (ws : List ℕ) → T (lawful ws) → (i : ℕ) → i < length (book_of ws).log
    → (get_or (book_of ws).log i no_record).origin < parts
logged-origin ws h i l =
    let b = book_of ws in
    let s = lawful-sound ws h in
    let r = get_or b.log i no_record in
    omega (
      arith,
      (obeys body_fits b.screens r (s.log-obeys r (get_or_in b.log i no_record l))).origin_lt,
      range-parts b.me b.screens s.range,
    )

-- the known stamp can be summed
pub known-words : (b : Book) → Sound b → (length (known b) ≤ parts) × T (every (λ x. ltb x word) (known b))
known-words b s =
    let f = known-fits b s in (
      omega (arith, f.long),
      get_or-every (λ x. ltb x word) (known b) 0 (λ k h. lt→ltb (part (known b) k) word (f.words k)),
    )

-- the record that is made, of its own screen's number and the next of its records
pub new_made :
    (ws : List ℕ) (i n w : ℕ) (l : Stamp) → T (body_fits w) → i ≡ (book_of ws).me
    → n ≡ part (known (book_of ws)) (book_of ws).me
    → record { origin = i; number = n + 1; label = l; body = w } ≡ new_record (book_of ws) (body_of w) l
unfolding new_record
new_made ws i n w l h e f =
    let number : n + 1 ≡ suc (part (known (book_of ws)) (book_of ws).me) = omega arith in
    λ j. record { origin = e j; number = number j; label = l; body = sym (word-body w h) j }
