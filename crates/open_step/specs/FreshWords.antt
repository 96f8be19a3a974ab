-- Laws: the words of a fresh book are zeros but for i and N. Assumes nothing.
use Rattle.std.specs.Prelude.{ℕ, zero, suc, ◌+◌, ◌-◌, ◌*◌, ◌≤◌, ◌≡◌, length, replicate}
use Rattle.std.proofs.Common.{zero-mul, suc-mul, arith, ap₂, ◌∙◌}
use Rattle.std.proofs.Math.Path.{refl, sym, ap}
use mathlib.Core.List.{List, [], ◌∷◌, ◌++◌, map}
use Rattle.std.proofs.Math.ListN.{set}
use Rattle.std.proofs.lemmas.List.{length-replicate, replicate-append-replicate}
use Rattle.lists.specs.Pieces.{sum_of}
use Rattle.lists.specs.Rows.{flat}
use Rattle.limits.specs.Limits.{parts, most, log_room, book_room}
use Rattle.stamp.specs.Stamp.{zeros}
use Rattle.book_log.specs.Region.{row_long, log_words}
use Rattle.taps.specs.Region.{tap_words}
use Rattle.prompts.specs.RegionLaws.{words-fresh}
use Rattle.meaning.specs.Book.{fresh}
use Rattle.lent.specs.Lay.{put_in, Laid, laid-put, store-lay}
use Rattle.lent.specs.Words.{Name, Screen, Screens, Logged, Taps, Table, Value, Log, Counted, Prompts, Words, order}
use Rattle.lent.specs.Words.{size, from, book_long, lay, words_at, table_words, words_of}

-- so many zeros
abbrev pub blank_words : ℕ → List ℕ
blank_words k = replicate k 0

flat-zeros : (ns : List Name) → flat (map (λ n. blank_words (size n)) ns) ≡ blank_words (sum_of (map size ns))
unfolding flat
flat-zeros [] = refl
flat-zeros (n ∷ ns) = ap (λ (l : List ℕ). blank_words (size n) ++ l) (flat-zeros ns)
    ∙ replicate-append-replicate (size n) (sum_of (map size ns)) 0

rows-zeros : (n : ℕ) → flat (replicate n zeros) ≡ blank_words (n * parts)
unfolding flat zeros
rows-zeros zero = ap blank_words (sym (zero-mul parts))
rows-zeros (suc n) =
    let e : parts + n * parts ≡ suc n * parts = sym (suc-mul n parts ∙ omega arith) in
    ap (λ (l : List ℕ). zeros ++ l) (rows-zeros n) ∙ replicate-append-replicate parts (n * parts) 0 ∙ ap blank_words e

-- what of each piece is not in use
abbrev no_words : Words
no_words n = blank_words (size n)

laid-zeros : Laid no_words
laid-zeros n = length-replicate (size n) 0

fresh-table : (n : ℕ) → n ≤ most → table_words (replicate n zeros) ≡ blank_words (size Table)
unfolding table_words size
fresh-table n h =
    let e : n * parts + (most - n) * parts ≡ size Table = omega arith in
    ap₂ (λ (l : List ℕ) (k : ℕ). l ++ blank_words ((most - k) * parts)) (rows-zeros n) (length-replicate n zeros)
    ∙ replicate-append-replicate (n * parts) ((most - n) * parts) 0
    ∙ ap blank_words e

fresh-log : log_words log_room [] ≡ blank_words (size Log)
unfolding log_words flat size
fresh-log = let e : (log_room - 0) * row_long ≡ size Log = omega arith in ap blank_words e

fresh-counted : tap_words book_room [] ≡ blank_words (size Counted)
unfolding tap_words size
fresh-counted = let e : book_room - 0 ≡ size Counted = omega arith in ap blank_words e

module _ (i n : ℕ) (h : n ≤ most) where
  fresh-piece : (m : Name) → put_in (put_in no_words Screen (i ∷ [])) Screens (n ∷ []) m ≡ words_at (fresh i n) m
  unfolding fresh zeros size
  fresh-piece Screen = refl
  fresh-piece Screens = refl
  fresh-piece Logged = refl
  fresh-piece Taps = refl
  fresh-piece Table = sym (fresh-table n h)
  fresh-piece Value = refl
  fresh-piece Log = sym fresh-log
  fresh-piece Counted = sym fresh-counted
  fresh-piece Prompts = sym words-fresh

  -- a cleared slice with i and N written
  pub opened-words : (ws : List ℕ) → length ws ≡ book_long
      → set (set (blank_words (length ws)) (from Screen) i) (from Screens) n ≡ words_of (fresh i n)
  unfolding words_of size book_long
  opened-words ws e =
      ap (λ (l : List ℕ). set (set l (from Screen) i) (from Screens) n) (ap blank_words e ∙ sym (flat-zeros order))
      ∙ ap (λ (l : List ℕ). set l (from Screens) n) (store-lay no_words laid-zeros Screen i refl)
      ∙ store-lay (put_in no_words Screen (i ∷ [])) (laid-put no_words laid-zeros Screen (i ∷ []) refl) Screens n refl
      ∙ (λ j. lay (λ m. fresh-piece m j))
