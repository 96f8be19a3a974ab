-- Words that hold a book, and what changing one piece of them does to the book, piece by piece by its name. Assumes
-- nothing.
--     held_is, book_is   words that are those of a book of the right shape hold it
--     piece-words        each piece, by the book
--     screen-word ..     the numbers, as they are read
--     put-value ..       a piece changed
use Rattle.std.specs.Prelude.{ℕ, ◌+◌, ◌≤◌, ◌<◌, ◌≡◌, length, get_or}
use Rattle.std.proofs.Common.{arith, sym, subst, ◌∙◌}
use Rattle.std.proofs.Math.Path.{refl, ap}
use mathlib.Core.List.{List, [], ◌∷◌}
use Rattle.std.proofs.Math.ListN.{set}
use Rattle.lists.specs.Part.{patch}
use Rattle.limits.specs.Limits.{log_room, book_room}
use Rattle.stamp.specs.Stamp.{Stamp}
use Rattle.tally.specs.declared.Standing.{Standing}
use Rattle.tally.specs.declared.Tap.{Tap}
use Rattle.ledger.specs.Record.{Record}
use Rattle.book_log.specs.Region.{log_words}
use Rattle.taps.specs.Region.{tap_words}
use Rattle.prompts.specs.Region.{standing_words}
use Rattle.meaning.specs.Book.{Book}
use Rattle.lent.specs.Lay.{put_in, put-lay, put-counted, piece_in, number_word}
use Rattle.lent.specs.Shape.{Shape}
use Rattle.lent.specs.With.{with_table, with_value, with_log, with_counted, with_prompts}
use Rattle.lent.specs.Words.{Name, Screen, Screens, Logged, Taps, Table, Value, Log, Counted, Prompts, size, from}
use Rattle.lent.specs.Words.{book_long, piece, lay, words_at, table_words, words_of, book_of}
use Rattle.lent.specs.WordsLaws.{shape-long, words-laid, piece_back, book-words, words-shaped}

-- the words are those of a book of the right shape
pub record Held (ws : List ℕ) : Type 0 where
  pub shape : Shape (book_of ws)
  pub words : words_of (book_of ws) ≡ ws

pub held-words : (b : Book) → Shape b → Held (words_of b)
held-words b s = record { shape = subst Shape (sym (book-words b s)) s; words = ap words_of (book-words b s) }

module _ (ws : List ℕ) (b : Book) (s : Shape b) (e : ws ≡ words_of b) where
  pub held_is : Held ws
  held_is = subst Held (sym e) (held-words b s)

  pub book_is : book_of ws ≡ b
  book_is = ap book_of e ∙ book-words b s

module _ (ws : List ℕ) (h : Held ws) where
  pub held-long : length ws ≡ book_long
  held-long = subst (λ (l : List ℕ). length l ≡ book_long) h.words
      (shape-long (words_of (book_of ws)) (words-shaped (book_of ws) h.shape))

  pub piece-within : (n : Name) → from n + size n ≤ length ws
  piece-within n = piece_in ws held-long n

  -- the pieces, by the book
  pub piece-words : (n : Name) → piece n ws ≡ words_at (book_of ws) n
  piece-words n = ap (piece n) (sym h.words) ∙ piece_back (book_of ws) h.shape n

  number-held : (n : Name) → size n ≡ 1 → get_or ws (from n) 0 ≡ get_or (words_at (book_of ws) n) 0 0
  number-held n e = sym (number_word ws n e) ∙ ap (λ (l : List ℕ). get_or l 0 0) (piece-words n)

  pub screen-word : get_or ws (from Screen) 0 ≡ (book_of ws).me
  unfolding size
  screen-word = number-held Screen refl

  pub screens-word : get_or ws (from Screens) 0 ≡ (book_of ws).screens
  unfolding size
  screens-word = number-held Screens refl

  pub logged-word : get_or ws (from Logged) 0 ≡ length (book_of ws).log
  unfolding size
  logged-word = number-held Logged refl

  pub taps-word : get_or ws (from Taps) 0 ≡ length (book_of ws).counted
  unfolding size
  taps-word = number-held Taps refl

  -- other words in a piece's place
  put : (n : Name) (y : List ℕ) → patch (from n) (size n) ws y ≡ lay (put_in (words_at (book_of ws)) n y)
  unfolding words_of
  put n y = ap (λ (l : List ℕ). patch (from n) (size n) l y) (sym h.words)
      ∙ put-lay (words_at (book_of ws)) (words-laid (book_of ws) h.shape) n y

  put_both : (n k : Name) (y : List ℕ) (v : ℕ) → size k ≡ 1 → from k < from n
      → set (patch (from n) (size n) ws y) (from k) v ≡ lay (put_in (put_in (words_at (book_of ws)) k (v ∷ [])) n y)
  unfolding words_of
  put_both n k y v e f =
      ap (λ (l : List ℕ). set (patch (from n) (size n) l y) (from k) v) (sym h.words)
      ∙ put-counted (words_at (book_of ws)) (words-laid (book_of ws) h.shape) n k y v e f

  pub put-table : (rows : List Stamp)
      → patch (from Table) (size Table) ws (table_words rows) ≡ words_of (with_table rows (book_of ws))
  unfolding words_of
  put-table rows = put Table (table_words rows)

  pub put-value : (v : Stamp) → patch (from Value) (size Value) ws v ≡ words_of (with_value v (book_of ws))
  unfolding words_of
  put-value v = put Value v

  pub put-log : (rs : List Record)
      → set (patch (from Log) (size Log) ws (log_words log_room rs)) (from Logged) (length rs)
      ≡ words_of (with_log rs (book_of ws))
  unfolding words_of from
  put-log rs = put_both Log Logged (log_words log_room rs) (length rs) refl (omega arith)

  pub put-taps : (ts : List Tap)
      → set (patch (from Counted) (size Counted) ws (tap_words book_room ts)) (from Taps) (length ts)
      ≡ words_of (with_counted ts (book_of ws))
  unfolding words_of from
  put-taps ts = put_both Counted Taps (tap_words book_room ts) (length ts) refl (omega arith)

  pub put-prompts : (ss : List Standing)
      → patch (from Prompts) (size Prompts) ws (standing_words ss) ≡ words_of (with_prompts ss (book_of ws))
  unfolding words_of
  put-prompts ss = put Prompts (standing_words ss)
