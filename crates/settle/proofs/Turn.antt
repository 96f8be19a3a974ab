-- What each change of the words comes to, of the book that they hold. Assumes nothing.
use Prim.Native.Nat.{ℕ, ◌+◌, ◌≤◌, ◌<◌}
use native.Mathlib.Nat.{le_refl}
use native.Mathlib.Omega.{arith}
use mathlib.Core.Path.{◌≡◌, refl, sym, ap, subst, ◌∙◌}
use mathlib.Core.Bool.{Bool, true, false, not}
use mathlib.Core.List.{List, [], ◌∷◌}
use lib.Dec.{T}
use lib.ListN.{length, get_or, take, drop, length-take, length-drop, drop_of_length-le}
use Rattle.lists.specs.TestLaws.{bit}
use Rattle.lists.specs.Order.{insert}
use Rattle.limits.specs.Limits.{parts}
use Rattle.stamp.specs.Laws.{length-merge, length-replace}
use Rattle.stamp.specs.Stamp.{Stamp, merge}
use Rattle.tally.proofs.BodyLaws.{taps_tap}
use Rattle.tally.specs.Standing.{among, count}
use Rattle.tally.specs.Tap.{fields, tap_of}
use Rattle.tally.specs.declared.Tap.{Tap}
use Rattle.ledger.specs.Record.{Record, stamp_of}
use Rattle.ledger.specs.Log.{newly_applied, remaining}
use Rattle.book_log.specs.Region.{record_at, row_long}
use Rattle.taps.specs.RegionLaws.{length-insert}
use Rattle.prompts.specs.Region.{noted_at}
use Rattle.prompts.specs.RegionLaws.{length-noted}
use Rattle.meaning.specs.Book.{Book, row, known, ready, standing_at}
use Rattle.lent.specs.Changes.{Insertable}
use Rattle.lent.specs.Held.{Held, held_is, book_is}
use Rattle.lent.specs.Rows.{no_record}
use Rattle.lent.specs.Shape.{Shape, value-fits, prompts_fit}
use Rattle.lent.specs.With.{with_value, with_log, with_counted, with_prompts}
use Rattle.lent.specs.Words.{book_of, words_of}
use Rattle.settle.specs.Moves.{count_taps, added, is_newly_applied, apply_one, apply_all, shed, settled}
use Rattle.settle.specs.Ready.{Countable, Applicable, Appliable, applied_from, from-me, from-shape, from-log}
use Rattle.settle.specs.Ready.{from-none, from_all, from_next, newly-next, from_applicable}

-- counting one tap
module _ (t : Tap) (b : Book) where
  pub count_none : among b.counted t ≡ true → count_taps (t ∷ []) b ≡ b
  unfolding count_taps count
  count_none e = rw e

  pub count-some :
      among b.counted t ≡ false
      → count_taps (t ∷ []) b ≡ with_prompts (noted_at t b.prompts) (with_counted (insert fields t b.counted) b)
  unfolding count_taps count
  count-some e = rw e

-- a tap is counted: nothing if it is there, else it is noted and put in its place
module _ (ws : List ℕ) (h : Held ws) (w : ℕ) where
  pub count_had : among (book_of ws).counted (tap_of w) ≡ true → ws ≡ words_of (count_taps (tap_of w ∷ []) (book_of ws))
  count_had e = sym (ap words_of (count_none (tap_of w) (book_of ws) e) ∙ h.words)

  pub noted-shape : Shape (with_prompts (noted_at (tap_of w) (book_of ws).prompts) (book_of ws))
  noted-shape = prompts_fit (book_of ws) h.shape (noted_at (tap_of w) (book_of ws).prompts)
      (length-noted (tap_of w) (book_of ws).prompts ∙ h.shape.prompts-long)

  module _ (k : Countable w (book_of ws)) (e : among (book_of ws).counted (tap_of w) ≡ false) where
    new : T (not (among (book_of ws).counted (tap_of w)))
    new = subst (λ (c : Bool). T (not c)) (sym e) tt

    pub noted_insertable : Insertable w (with_prompts (noted_at (tap_of w) (book_of ws).prompts) (book_of ws))
    noted_insertable = record {
      order = k.order;
      new = new;
      room = omega (arith, length-insert (tap_of w) (book_of ws).counted new, k.room);
    }

  pub count-new :
      (vs : List ℕ) → among (book_of ws).counted (tap_of w) ≡ false
      → book_of vs ≡ with_prompts (noted_at (tap_of w) (book_of ws).prompts) (book_of ws)
      → words_of (with_counted (insert fields (tap_of w) (book_of vs).counted) (book_of vs))
      ≡ words_of (count_taps (tap_of w ∷ []) (book_of ws))
  count-new vs e f =
      ap (λ (b : Book). words_of (with_counted (insert fields (tap_of w) b.counted) b)) f
      ∙ ap words_of (sym (count-some (tap_of w) (book_of ws) e))

pub stamp-whole : (row : List ℕ) → length row ≡ row_long → (record_at row).origin < parts
    → length (stamp_of (record_at row)) ≡ parts
unfolding stamp_of
stamp-whole row e l =
    let long : length (take parts (drop 2 row)) ≡ parts = simp (length-take, length-drop) (omega arith) in
    length-replace (take parts (drop 2 row)) (get_or row 0 0) (get_or row 1 0) (omega arith) ∙ long

-- a record is added: its stamp is merged, then its tap is counted
module _ (ws : List ℕ) (h : Held ws) (r : Record) (o : length (stamp_of r) ≡ parts) where
  pub merged-shape : Shape (with_value (merge (stamp_of r) (book_of ws).value) (book_of ws))
  merged-shape =
      let v = (book_of ws).value in
      value-fits (book_of ws) h.shape (merge (stamp_of r) v)
      (length-merge (stamp_of r) v (o ∙ sym h.shape.value-long) ∙ h.shape.value-long)

  pub merged-countable : Countable r.body (book_of ws)
      → Countable r.body (with_value (merge (stamp_of r) (book_of ws).value) (book_of ws))
  unfolding standing_at
  merged-countable k = record { order = k.order; counts = k.counts; room = k.room }

  -- the taps of its body are the tap of its word
  pub added_tap :
      count_taps (tap_of r.body ∷ []) (with_value (merge (stamp_of r) (book_of ws).value) (book_of ws))
      ≡ added r (book_of ws)
  added_tap =
      ap (λ (ts : List Tap). count_taps ts (with_value (merge (stamp_of r) (book_of ws).value) (book_of ws)))
      (sym (taps_tap r.body))

-- one record of the log, by the test
module _ (before now : Stamp) (r : Record) (b : Book) where
  pub apply-off : is_newly_applied before now r ≡ false → apply_one before now r b ≡ b
  unfolding apply_one
  apply-off e = rw e

  pub apply-on : is_newly_applied before now r ≡ true → apply_one before now r b ≡ added r b
  unfolding apply_one
  apply-on e = rw e

-- the log from its end to its start
module _ (before now : Stamp) (ws : List ℕ) (h : Held ws) (y : Appliable before now (book_of ws)) where
  none-newly : length (newly_applied before now []) ≡ 0
  unfolding newly_applied
  none-newly = refl

  pub log_start :
      (n : ℕ) → n ≡ length (book_of ws).log
      → (ws ≡ words_of (applied_from before now (book_of ws) n))
      × (0 ≡ length (newly_applied before now (drop n (book_of ws).log)))
  log_start n e = (
    sym (ap (λ (k : ℕ). words_of (applied_from before now (book_of ws) k)) e
        ∙ ap words_of (from-none before now (book_of ws) y) ∙ h.words),
    rw (e, drop_of_length-le (book_of ws).log (le_refl (length (book_of ws).log))) (sym none-newly),
  )

  module _ (vs : List ℕ) (i : ℕ) (l : i < length (book_of ws).log)
      (e : vs ≡ words_of (applied_from before now (book_of ws) (i + 1))) where
    there : book_of vs ≡ applied_from before now (book_of ws) (i + 1)
    there = book_is vs (applied_from before now (book_of ws) (i + 1)) (from-shape before now (book_of ws) y (i + 1)) e

    same_record : get_or (book_of vs).log i no_record ≡ get_or (book_of ws).log i no_record
    same_record = ap (λ (b : Book). get_or b.log i no_record) there
        ∙ ap (λ (rs : List Record). get_or rs i no_record) (from-log before now (book_of ws) y (i + 1))

    pub turn-held : Held vs
    turn-held = held_is vs (applied_from before now (book_of ws) (i + 1))
        (from-shape before now (book_of ws) y (i + 1)) e

    pub turn_in : i < length (book_of vs).log
    turn_in = omega (
      arith,
      ap (λ (b : Book). length b.log) there,
      ap length (from-log before now (book_of ws) y (i + 1)),
    )

    pub turn_applicable : Applicable before now (get_or (book_of vs).log i no_record) (book_of vs)
    turn_applicable = rw (same_record, there) (from_applicable before now (book_of ws) y i l)

    pub turn-words : words_of (apply_one before now (get_or (book_of vs).log i no_record) (book_of vs))
        ≡ words_of (applied_from before now (book_of ws) i)
    turn-words = rw (same_record, there) (ap words_of (from_next before now (book_of ws) y i l))

    pub turn-newly : (n : ℕ) → n ≡ length (newly_applied before now (drop (i + 1) (book_of ws).log))
        → n + bit (is_newly_applied before now (get_or (book_of vs).log i no_record))
        ≡ length (newly_applied before now (drop i (book_of ws).log))
    turn-newly n f = rw same_record (omega (arith, newly-next before now (book_of ws) y i l))

  pub log-end : (i : ℕ) → i ≤ 0
      → (words_of (applied_from before now (book_of ws) i)
      ≡ words_of (apply_all before now (book_of ws).log (book_of ws)))
      × (length (newly_applied before now (drop i (book_of ws).log))
      ≡ length (newly_applied before now (book_of ws).log))
  log-end i z =
      let e : i ≡ 0 = omega arith in (
        ap (λ (k : ℕ). words_of (applied_from before now (book_of ws) k)) e
            ∙ ap words_of (from_all before now (book_of ws) y),
        ap (λ (k : ℕ). length (newly_applied before now (drop k (book_of ws).log))) e,
      )

-- the whole log applied, then closed up
module _
    (before : Stamp) (ws : List ℕ) (y : Appliable before (ready (book_of ws)) (book_of ws)) (vs : List ℕ)
    (e : vs ≡ words_of (apply_all before (ready (book_of ws)) (book_of ws).log (book_of ws))) where
  abbrev now : Stamp
  now = ready (book_of ws)

  words-applied : vs ≡ words_of (applied_from before now (book_of ws) 0)
  words-applied = e ∙ ap words_of (sym (from_all before now (book_of ws) y))

  pub applied-held : Held vs
  applied-held = held_is vs (applied_from before now (book_of ws) 0) (from-shape before now (book_of ws) y 0)
      words-applied

  applied-book : book_of vs ≡ applied_from before now (book_of ws) 0
  applied-book = book_is vs (applied_from before now (book_of ws) 0) (from-shape before now (book_of ws) y 0)
      words-applied

  pub applied-me : (book_of ws).me < (book_of ws).screens → (book_of vs).me < (book_of vs).screens
  applied-me l =
      let f = from-me before now (book_of ws) y 0 in
      omega (arith, ap (λ (b : Book). b.me) applied-book, ap (λ (b : Book). b.screens) applied-book, f.0, f.1)

  shed-applied :
      shed (applied_from before now (book_of ws) 0)
      ≡ with_log (remaining now (book_of ws).table (book_of ws).log) (applied_from before now (book_of ws) 0)
  unfolding applied_from count_taps ready known row
  shed-applied = refl

  pub shed-settled : words_of (shed (book_of vs)) ≡ words_of (settled before (book_of ws))
  unfolding settled
  shed-settled =
      let b = book_of ws in
      ap (λ (x : Book). words_of (shed x)) applied-book
      ∙ ap words_of shed-applied
      ∙ ap (λ (x : Book). words_of (with_log (remaining (ready b) b.table b.log) x)) (from_all before now b y)
