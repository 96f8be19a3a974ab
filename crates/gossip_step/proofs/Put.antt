-- What each change of the words comes to, of the book that they hold: rows raised. Assumes nothing.
use Prim.Native.Nat.{ℕ, zero, suc, ◌<◌}
use native.Mathlib.Omega.{arith}
use mathlib.Core.Path.{◌≡◌, sym, ap, ap₂, ◌∙◌}
use mathlib.Core.List.{List, [], ◌∷◌}
use lib.ListN.{length, set, length-set}
use lib.Seq.{get_or-set_other}
use Rattle.lists.specs.RowLaws.{Wide}
use Rattle.limits.specs.Limits.{parts}
use Rattle.stamp.specs.Laws.{length-merge, merge-covered}
use Rattle.stamp.specs.Stamp.{Stamp, merge}
use Rattle.meaning.specs.Book.{Book, row, known}
use Rattle.lent.specs.Held.{Held, held_is, book_is}
use Rattle.lent.specs.Rows.{row-long}
use Rattle.lent.specs.Shape.{Shape, table_fits}
use Rattle.lent.specs.With.{with_table}
use Rattle.lent.specs.Words.{book_of, words_of}
use Rattle.gossip_step.specs.Taken.{raised_rows, Raisable}

wide-set : (w : ℕ) (rs : List Stamp) (j : ℕ) (v : Stamp) → Wide w rs → length v ≡ w → Wide w (set rs j v)
unfolding Wide
wide-set w [] j v h e = tt
wide-set w (r ∷ rs) zero v h e = (e, h.1)
wide-set w (r ∷ rs) (suc j) v h e = (h.0, wide-set w rs j v h.1 e)

-- row j of a book with a stamp merged in
module _ (ws : List ℕ) (h : Held ws) (j : ℕ) (m : Stamp) (l : j < (book_of ws).screens) (e : length m ≡ parts) where
  same-long : length (row (book_of ws) j) ≡ length m
  same-long = row-long ws h j l ∙ sym e

  raised-shape : Shape (with_table (set (book_of ws).table j (merge (row (book_of ws) j) m)) (book_of ws))
  raised-shape =
      let t = (book_of ws).table in
      let v = merge (row (book_of ws) j) m in
      table_fits (book_of ws) h.shape (set t j v) (length-set t j v ∙ h.shape.rows_long)
      (wide-set parts t j v h.shape.rows-wide (length-merge (row (book_of ws) j) m same-long ∙ e))

-- row j raised, and then our own
module _ (ws : List ℕ) (h : Held ws) (j : ℕ) (m : Stamp) (k : Raisable (book_of ws) j m) (vs : List ℕ)
    (e : vs ≡ words_of (with_table (set (book_of ws).table j (merge (row (book_of ws) j) m)) (book_of ws))) where
  first : book_of vs ≡ with_table (set (book_of ws).table j (merge (row (book_of ws) j) m)) (book_of ws)
  first = book_is vs (with_table (set (book_of ws).table j (merge (row (book_of ws) j) m)) (book_of ws))
      (raised-shape ws h j m k.row_in k.long) e

  pub first-held : Held vs
  first-held = held_is vs (with_table (set (book_of ws).table j (merge (row (book_of ws) j) m)) (book_of ws))
      (raised-shape ws h j m k.row_in k.long) e

  pub own_row : (book_of ws).me < (book_of vs).screens
  own_row = omega (arith, k.me_in, ap (λ (b : Book). b.screens) first)

  own-still : row (with_table (set (book_of ws).table j (merge (row (book_of ws) j) m)) (book_of ws)) (book_of ws).me
      ≡ known (book_of ws)
  unfolding row known
  own-still = get_or-set_other (book_of ws).table j (book_of ws).me (merge (row (book_of ws) j) m) []
      (λ f. k.other (sym f))

  set_to : merge (row (book_of ws) j) m ≡ m
  set_to = merge-covered (row (book_of ws) j) m (same-long ws h j m k.row_in k.long) k.newer

  pub rows-raised :
      (i : ℕ) → i ≡ (book_of ws).me
      → words_of (with_table (set (book_of vs).table i (merge (row (book_of vs) i) m)) (book_of vs))
      ≡ words_of (with_table (raised_rows (book_of ws) j m) (book_of ws))
  unfolding raised_rows
  rows-raised i o =
      ap (λ (k : ℕ). words_of (with_table (set (book_of vs).table k (merge (row (book_of vs) k) m)) (book_of vs))) o
      ∙ ap (λ (b : Book). words_of (with_table (set b.table (book_of ws).me (merge (row b (book_of ws).me) m)) b))
      first
      ∙ ap₂ (λ (x y : Stamp). words_of
      (with_table (set (set (book_of ws).table j x) (book_of ws).me (merge y m)) (book_of ws))) set_to own-still
