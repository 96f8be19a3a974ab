-- Laws: sound books have the shape that words need, so a sound lent slice is the words of a sound book. Assumes
-- nothing.
use Rattle.std.specs.Prelude.{ℕ, List, [], ◌∷◌, T, length}
use Rattle.std.proofs.Common.{sym, subst}
use Rattle.lists.specs.TestLaws.{◌∈◌, and_l, and_r, both, every-from}
use Rattle.lists.proofs.ElementLaws.{eq→eqb}
use Rattle.lists.specs.RowLaws.{Wide}
use Rattle.lists.specs.Tests.{every}
use Rattle.limits.specs.Limits.{parts}
use Rattle.stamp.specs.Laws.{fits}
use Rattle.stamp.specs.Stamp.{Stamp, stamp_fits}
use Rattle.tally.specs.Body.{body_fits}
use Rattle.tally.proofs.WordLaws.{fits_bits}
use Rattle.ledger.specs.LimitLaws.{range-most}
use Rattle.ledger.specs.Record.{Record, record_fits}
use Rattle.ledger.proofs.RecordLaws.{obeys}
use Rattle.book_log.specs.RegionLaws.{whole_label}
use Rattle.meaning.specs.Book.{Book, sound}
use Rattle.meaning.specs.BookLaws.{Sound, sound-at, at-sound, counted-few, prompts-long}
use Rattle.lent.specs.Words.{words_of, book_of, in_shape, lawful}
use Rattle.lent.specs.WordsLaws.{words-book, book-words, words-shaped}
use Rattle.lent.specs.Held.{Held}
use Rattle.lent.specs.Shape.{Shape}

wide_fits : (n : ℕ) (rs : List Stamp) → T (every (stamp_fits n) rs) → Wide parts rs
unfolding Wide
wide_fits n [] h = tt
wide_fits n (s ∷ rs) h = (
  (fits n s (and_l (stamp_fits n s) (every (stamp_fits n) rs) h)).long,
  wide_fits n rs (and_r (stamp_fits n s) (every (stamp_fits n) rs) h),
)

pub whole_each : (n : ℕ) (rs : List Record) → ((r : Record) → r ∈ rs → T (record_fits body_fits n r))
    → T (every whole_label rs)
unfolding whole_label
whole_each n rs f = every-from whole_label rs
    (λ r m. eq→eqb (length r.label) parts (obeys body_fits n r (f r m)).label-fits.long)

pub sound-shape : (b : Book) → Sound b → Shape b
sound-shape b s =
    record {
      rows_long = s.rows;
      screens-few = range-most b.me b.screens s.range;
      rows-wide = wide_fits b.screens b.table s.rows_fit;
      value-long = (fits b.screens b.value s.value-fits).long;
      log-few = s.log-room;
      log-whole = whole_each b.screens b.log s.log-obeys;
      counted-few = counted-few b s;
      counted_fit = λ t m. fits_bits t (s.taps_fit t m);
      prompts-long = prompts-long b s;
    }

-- a sound lent slice holds a sound book
module _ (ws : List ℕ) (h : T (lawful ws)) where
  pub lawful-sound : Sound (book_of ws)
  unfolding lawful
  lawful-sound = sound-at (book_of ws) (and_r (in_shape ws) (sound (book_of ws)) h)

  pub lawful-held : Held ws
  unfolding lawful
  lawful-held = record {
    shape = sound-shape (book_of ws) lawful-sound;
    words = words-book ws (and_l (in_shape ws) (sound (book_of ws)) h);
  }

-- the words of a sound book are a sound lent slice
pub sound-lawful : (b : Book) → Sound b → T (lawful (words_of b))
unfolding lawful
sound-lawful b s =
    both (in_shape (words_of b)) (sound (book_of (words_of b))) (words-shaped b (sound-shape b s))
    (subst (λ (x : Book). T (sound x)) (sym (book-words b (sound-shape b s))) (at-sound b s))
