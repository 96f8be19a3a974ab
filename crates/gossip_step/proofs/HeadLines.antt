-- Each line of the refusals by the head, from the tests that lead to it. Assumes nothing.
use Prim.Native.Nat.{ℕ, zero, suc, ◌≤◌, ◌<◌}
use mathlib.Core.Path.{◌≡◌, refl, sym, ap, ◌∙◌}
use mathlib.Core.Logic.{◌≢◌}
use mathlib.Core.Bool.{true, false}
use mathlib.Core.List.{List}
use borrow.Author.Tests.{lt-ltb, le-ltb, eq-eqb, ne_eqb}
use lib.Dec.{T, ltb}
use Rattle.lists.specs.Tests.{every}
use Rattle.limits.specs.Limits.{word, book_room}
use Rattle.stamp.specs.Laws.{fits, fits-words, fits_test, fits-merge}
use Rattle.stamp.specs.Stamp.{Stamp, part, at_most, merge, total, stamp_fits}
use Rattle.meaning.specs.Book.{Book, row, known}
use Rattle.meaning.specs.BookLaws.{known-fits}
use Rattle.lent.specs.SoundWords.{lawful-sound}
use Rattle.lent.specs.Words.{book_of, lawful}
use Rattle.gossip_step.specs.Refusals.{unless, row_refusal, own_refusal, stamp_refusal}

-- the merged stamp's parts are words
pub merged-words : (ws : List ℕ) → T (lawful ws) → (m : Stamp) → T (stamp_fits (book_of ws).screens m)
    → T (every (λ x. ltb x word) (merge (known (book_of ws)) m))
merged-words ws h m f =
    let n = (book_of ws).screens in
    let s = merge (known (book_of ws)) m in
    fits-words n s (fits_test n s
    (fits-merge n (known (book_of ws)) m (known-fits (book_of ws) (lawful-sound ws h)) (fits n m f)))

module _ (s m : Stamp) where
  pub row_old : at_most m s ≡ true → 4 ≡ row_refusal s m
  unfolding row_refusal
  row_old e = rw e

  pub row_crossed : at_most m s ≡ false → at_most s m ≡ false → 5 ≡ row_refusal s m
  unfolding row_refusal
  row_crossed e f = rw (e, f)

  pub row-newer : at_most m s ≡ false → at_most s m ≡ true → 0 ≡ row_refusal s m
  unfolding row_refusal
  row-newer e f = rw (e, f)

  pub own_ahead : (i : ℕ) → part s i < part m i → 6 ≡ own_refusal s i m
  unfolding own_refusal
  own_ahead i h = rw (lt-ltb (part s i) (part m i) h)

  pub own_spent : (i : ℕ) → part m i ≤ part s i → book_room < total (merge s m) → 7 ≡ own_refusal s i m
  unfolding own_refusal
  own_spent i h k = rw (le-ltb (part s i) (part m i) h, lt-ltb book_room (total (merge s m)) k)

  pub own_room : (i : ℕ) → part m i ≤ part s i → total (merge s m) ≤ book_room → 0 ≡ own_refusal s i m
  unfolding own_refusal
  own_room i h k = rw (le-ltb (part s i) (part m i) h, le-ltb book_room (total (merge s m)) k)

unless-some : (x k : ℕ) → x ≢ 0 → x ≡ unless x k
unless-some zero k n = absurd (n refl)
unless-some (suc x) k n = refl

module _ (b : Book) (j n : ℕ) (m : Stamp) where
  pub other-house : n ≢ b.screens → 2 ≡ stamp_refusal b j n m
  unfolding stamp_refusal
  other-house h = rw (ne_eqb n b.screens h)

  module _ (house : n ≡ b.screens) where
    pub from_self : j ≡ b.me → 2 ≡ stamp_refusal b j n m
    unfolding stamp_refusal
    from_self e = rw (eq-eqb n b.screens house, eq-eqb j b.me e)

    module _ (other : j ≢ b.me) where
      later : stamp_refusal b j n m ≡ unless (row_refusal (row b j) m) (own_refusal (known b) b.me m)
      unfolding stamp_refusal
      later = rw (eq-eqb n b.screens house, ne_eqb j b.me other)

      pub by_row : row_refusal (row b j) m ≢ 0 → row_refusal (row b j) m ≡ stamp_refusal b j n m
      by_row h = unless-some (row_refusal (row b j) m) (own_refusal (known b) b.me m) h ∙ sym later

      pub by-own : row_refusal (row b j) m ≡ 0 → own_refusal (known b) b.me m ≡ stamp_refusal b j n m
      by-own e = sym (later ∙ ap (λ (x : ℕ). unless x (own_refusal (known b) b.me m)) e)
