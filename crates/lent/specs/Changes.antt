-- Laws: what each change of the words comes to, of the book that they hold. Assumes nothing.
use Rattle.std.specs.Prelude.{ℕ, ◌+◌, ◌*◌, ◌≤◌, ◌<◌, ◌≡◌, not, T, set}
use native.Mathlib.Omega.{arith}
use Rattle.std.proofs.Math.Path.{refl}
use Rattle.std.proofs.Common.{sym, ap, ap₂, ◌∙◌}
use mathlib.Core.List.{List, [], ◌∷◌}
use Rattle.std.proofs.Math.ListN.{length}
use Rattle.lists.specs.TestLaws.{◌∈◌, get_or_in}
use Rattle.lists.specs.Order.{rising, insert}
use Rattle.lists.specs.Part.{mid, patch, length-mid}
use Rattle.lists.specs.Rows.{rows}
use Rattle.limits.specs.LimitLaws.{most-parts}
use Rattle.limits.specs.Limits.{parts, log_room, book_room}
use Rattle.stamp.specs.Laws.{merge_comm, set-replace}
use Rattle.stamp.specs.Stamp.{Stamp, merge, replace}
use Rattle.tally.specs.Standing.{among}
use Rattle.tally.specs.Tap.{fields, tap_of}
use Rattle.tally.specs.declared.Standing.{Standing}
use Rattle.ledger.specs.Log.{gathered, remaining}
use Rattle.ledger.specs.Record.{Record}
use Rattle.book_log.specs.Lowest.{lowest_from}
use Rattle.book_log.specs.Region.{row_long, records_at, log_words}
use Rattle.log_edit.specs.Merge.{Fresh, merged, stayers, dropped}
use Rattle.log_edit.specs.MergeLaws.{length-gathered}
use Rattle.log_edit.specs.WordLaws.{stayers-remaining, dropped-words, merged-words}
use Rattle.taps.specs.Region.{taps_at, tap_words, inserted_at}
use Rattle.taps.specs.RegionLaws.{length-insert, words_inserted, taps-words}
use Rattle.prompts.specs.Region.{standings_at, standing_words, noted_at}
use Rattle.meaning.specs.Book.{Book, row, known, ready}
use Rattle.lent.specs.Held.{Held, piece-words, put-value, put-log, put-taps, put-prompts}
use Rattle.lent.specs.Lay.{store-put}
use Rattle.lent.specs.Rows.{patch-within, row_words, row_within, row-long, put-row}
use Rattle.lent.specs.With.{with_table, with_value, with_log, with_counted, with_prompts}
use Rattle.lent.specs.Words.{Logged, Taps, Table, Value, Log, Counted, Prompts, size, from, piece, book_of}
use Rattle.lent.specs.Words.{words_of}
use Rattle.lent.specs.WordsLaws.{records-back}

-- the tap of a word is not counted, and can be put among the counted ones
pub record Insertable (w : ℕ) (b : Book) : Type 0 where
  pub order : T (rising fields b.counted)
  pub new : T (not (among b.counted (tap_of w)))
  pub room : length b.counted < book_room

module _ (ws : List ℕ) (h : Held ws) where
  pub value-merged : (s : Stamp)
      → patch (from Value) (size Value) ws (merge (piece Value ws) s)
      ≡ words_of (with_value (merge s (book_of ws).value) (book_of ws))
  value-merged s =
      ap (patch (from Value) (size Value) ws)
      (ap (λ (v : Stamp). merge v s) (piece-words ws h Value) ∙ merge_comm (book_of ws).value s)
      ∙ put-value ws h (merge s (book_of ws).value)

  pub standings_are : standings_at (piece Prompts ws) ≡ (book_of ws).prompts
  unfolding book_of
  standings_are = refl

  pub prompt-noted : (w : ℕ)
      → patch (from Prompts) (size Prompts) ws (standing_words (noted_at (tap_of w) (standings_at (piece Prompts ws))))
      ≡ words_of (with_prompts (noted_at (tap_of w) (book_of ws).prompts) (book_of ws))
  prompt-noted w =
      ap (λ (ss : List Standing). patch (from Prompts) (size Prompts) ws (standing_words (noted_at (tap_of w) ss)))
      standings_are
      ∙ put-prompts ws h (noted_at (tap_of w) (book_of ws).prompts)

  -- the counted taps, read from as many words as there are
  pub taps_are : taps_at (length (book_of ws).counted) (piece Counted ws) ≡ (book_of ws).counted
  taps_are = ap (taps_at (length (book_of ws).counted)) (piece-words ws h Counted)
      ∙ taps-words book_room (book_of ws).counted h.shape.counted_fit

  pub tap_inserted : (w : ℕ) → Insertable w (book_of ws)
      → set (patch (from Counted) (size Counted) ws (inserted_at (length (book_of ws).counted) w (piece Counted ws)))
      (from Taps) (length (book_of ws).counted + 1)
      ≡ words_of (with_counted (insert fields (tap_of w) (book_of ws).counted) (book_of ws))
  tap_inserted w i =
      let cs = (book_of ws).counted in
      let ts = insert fields (tap_of w) cs in
      let region : inserted_at (length cs) w (piece Counted ws)
      ≡ tap_words book_room ts =
      ap (inserted_at (length cs) w) (piece-words ws h Counted)
      ∙ words_inserted book_room w cs h.shape.counted_fit i.room i.new in
      let number : length cs + 1 ≡ length ts = omega (arith, length-insert (tap_of w) cs i.new) in
      ap₂ (λ (x : List ℕ) (n : ℕ). set (patch (from Counted) (size Counted) ws x) (from Taps) n) region number
      ∙ put-taps ws h ts

  -- so many rows have room in the log's piece
  pub rows_fit : (n : ℕ) → n ≤ log_room → n * row_long ≤ size Log
  unfolding size
  rows_fit n l = omega arith

  -- the log's records, read from as many rows as there are
  pub log_is : records_at (length (book_of ws).log) (piece Log ws) ≡ (book_of ws).log
  log_is = ap (records_at (length (book_of ws).log)) (piece-words ws h Log)
      ∙ records-back log_room (book_of ws).log h.shape.log-whole

  pub log-taken :
      (new : List Record) (n : ℕ) → n ≡ length new → Fresh new (book_of ws).log
      → length (book_of ws).log + n ≤ log_room
      → set (patch (from Log) (size Log) ws (merged new (length (book_of ws).log) n (piece Log ws))) (from Logged)
      (length (book_of ws).log + n)
      ≡ words_of (with_log (gathered new (book_of ws).log) (book_of ws))
  log-taken new n e fresh room =
      let log = (book_of ws).log in
      let rs = gathered new log in
      let in-room : length log + length new ≤ log_room = omega (arith, room, e) in
      let region : merged new (length log) n (piece Log ws) ≡ log_words log_room rs =
      ap₂ (λ (k : ℕ) (r : List ℕ). merged new (length log) k r) e (piece-words ws h Log)
      ∙ merged-words log_room log h.shape.log-whole new fresh in-room in
      let number : length log + n ≡ length rs = omega (arith, e, length-gathered new log fresh) in
      ap₂ (λ (x : List ℕ) (k : ℕ). set (patch (from Log) (size Log) ws x) (from Logged) k) region number
      ∙ put-log ws h rs

  own_row : (book_of ws).me < (book_of ws).screens → known (book_of ws) ∈ (book_of ws).table
  unfolding known row
  own_row l = get_or_in (book_of ws).table (book_of ws).me [] (omega (arith, h.shape.rows_long))

  pub log-dropped :
      (book_of ws).me < (book_of ws).screens → (y low : Stamp) (n : ℕ) → y ≡ ready (book_of ws)
      → low ≡ lowest_from (known (book_of ws)) (book_of ws).table
      → n ≡ length (stayers y low (records_at (length (book_of ws).log) (piece Log ws)))
      → set (patch (from Log) (size Log) ws (dropped y low (length (book_of ws).log) (piece Log ws))) (from Logged) n
      ≡ words_of (with_log (remaining (ready (book_of ws)) (book_of ws).table (book_of ws).log) (book_of ws))
  log-dropped l y low n d f g =
      let b = book_of ws in
      let rs = remaining (ready b) b.table b.log in
      let same : stayers y low b.log ≡ rs =
      rw (f, d) (stayers-remaining (ready b) (known b) b.table b.log (own_row l)) in
      let region : dropped y low (length b.log) (piece Log ws) ≡ log_words log_room rs =
      ap (dropped y low (length b.log)) (piece-words ws h Log)
      ∙ dropped-words log_room b.log h.shape.log-whole y low h.shape.log-few ∙ ap (log_words log_room) same in
      let number : n ≡ length rs = g ∙ ap (λ (r : List Record). length (stayers y low r)) log_is ∙ ap length same in
      ap₂ (λ (x : List ℕ) (k : ℕ). set (patch (from Log) (size Log) ws x) (from Logged) k) region number
      ∙ put-log ws h rs

  -- the table's rows, read from as many as there are screens
  pub rows_are : rows parts (book_of ws).screens (piece Table ws) ≡ (book_of ws).table
  unfolding book_of
  rows_are = refl

  pub row-merged :
      (j : ℕ) (m : Stamp) → j < (book_of ws).screens
      → patch (from Table + j * parts) parts ws (merge (mid (from Table + j * parts) parts ws) m)
      ≡ words_of (with_table (set (book_of ws).table j (merge (row (book_of ws) j) m)) (book_of ws))
  row-merged j m l = rw (row_words ws h j l) (put-row ws h j l (merge (row (book_of ws) j) m))

-- a word stored in a part
set-within : (a k x v : ℕ) (xs : List ℕ) → x < k → a + k ≤ length xs
    → set xs (a + x) v ≡ patch a k xs (set (mid a k xs) x v)
set-within a k x v xs l h =
    let inside : x < length (mid a k xs) = rw (length-mid a k xs h) l in
    store-put xs (a + x) v (omega arith)
    ∙ patch-within a k x 1 xs (v ∷ []) (omega arith) h
    ∙ ap (patch a k xs) (sym (store-put (mid a k xs) x v inside))

-- the known stamp's own part
module _ (ws : List ℕ) (h : Held ws) (l : (book_of ws).me < (book_of ws).screens) where
  own-part : (book_of ws).me < parts
  own-part = omega (arith, l, h.shape.screens-few, most-parts)

  pub own-within : from Table + (book_of ws).me * parts + (book_of ws).me < length ws
  own-within = omega (arith, own-part, row_within ws h (book_of ws).me l)

  pub own-raised :
      (v : ℕ) → set ws (from Table + (book_of ws).me * parts + (book_of ws).me) v
      ≡ words_of (with_table (set (book_of ws).table (book_of ws).me
      (replace (known (book_of ws)) (book_of ws).me v)) (book_of ws))
  unfolding known
  own-raised v =
      let b = book_of ws in
      let i = b.me in
      let inside : i < length (row b i) = omega (arith, own-part, row-long ws h i l) in
      set-within (from Table + i * parts) parts i v ws own-part (row_within ws h i l)
      ∙ rw (row_words ws h i l, set-replace (row b i) i v inside) (put-row ws h i l (replace (row b i) i v))
