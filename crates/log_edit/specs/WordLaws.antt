-- Laws of the merge and of the drop, on the region's words: one turn of a merge from the back, its start and its end.
-- Assumes nothing.
--     merged-turn    the last of the new records slid in: the others are still to come, the gap is one row shorter
--     fresh-turn     and they are fresh to the rows that stay
--     merged-end     with nothing to come the region stands
--     merged-words   on the log's region, with the rows behind it zero
--     dropped-words  the same of the drop
--     stayers-remaining  what stays is what remains
use Rattle.std.specs.Prelude.{ℕ, ◌+◌, ◌-◌, ◌*◌, ◌≤◌, ◌≡◌, refl, not, T}
use native.Mathlib.Omega.{arith}
use Rattle.std.proofs.Math.Path.{sym, ap}
use Rattle.std.proofs.Common.{subst, ◌∙◌, length-append, take-append-drop, drop_at}
use mathlib.Core.List.{List, [], ◌∷◌, ◌++◌, map, append_assoc, append-nil}
use Rattle.std.proofs.Math.ListN.{length, drop, replicate, length-replicate, replicate-append-replicate}
use Rattle.std.proofs.Math.Seq.{drop-append-add}
use Rattle.lists.specs.TestLaws.{◌∈◌, keep_le}
use Rattle.lists.specs.Rows.{flat}
use Rattle.lists.specs.Tests.{every, keep}
use Rattle.stamp.specs.Stamp.{Stamp}
use Rattle.ledger.specs.Record.{Record}
use Rattle.ledger.specs.Log.{gathered, remaining}
use Rattle.book_log.specs.Lowest.{lowest_from, goes_by}
use Rattle.book_log.proofs.LowestLaws.{may_go_lowest}
use Rattle.book_log.specs.Region.{row_long, record_at, row_of, records_at, log_words}
use Rattle.book_log.specs.RegionLaws.{whole_label, row_record_lem, records-words, length-log}
use Rattle.log_edit.specs.Merge.{after_of, Fresh, Slid, merged, stayers, dropped}
use Rattle.log_edit.specs.MergeLaws.{gathered_none, gathered-last, fresh-rest, length-gathered}
use Rattle.log_edit.specs.RowLaws.{flat-records}

-- the words of some records and of more behind them
rows_append : (xs ys : List Record) → flat (map row_of (xs ++ ys)) ≡ flat (map row_of xs) ++ flat (map row_of ys)
unfolding flat
rows_append [] ys = refl
rows_append (x ∷ xs) ys =
    ap (λ (l : List ℕ). row_of x ++ l) (rows_append xs ys)
    ∙ sym (append_assoc (row_of x) (flat (map row_of xs)) (flat (map row_of ys)))

module _
    (others : List Record) (i gap : ℕ) (row old new : List ℕ) (n : ℕ)
    (long : length row ≡ row_long) (fresh : Fresh (others ++ (record_at row ∷ [])) (records_at i old))
    (slid : Slid i gap row old new n) where
  pub merged-turn : merged (others ++ (record_at row ∷ [])) i gap old ≡ merged others n (gap - 1) new
  unfolding merged flat
  merged-turn =
      let x = record_at row in
      let past = after_of x (records_at i old) in
      let front = flat (map row_of (gathered others (records_at n new))) in
      let behind = flat (map row_of past) in
      let z = drop ((i + gap) * row_long) old in
      ap (λ (rs : List Record). flat (map row_of rs) ++ z)
      (gathered-last others x (records_at i old) fresh
      ∙ ap (λ (rs : List Record). gathered others rs ++ (x ∷ past)) (sym slid.stays))
      ∙ ap (λ (l : List ℕ). l ++ z)
      (rows_append (gathered others (records_at n new)) (x ∷ past)
      ∙ ap (λ (c : List ℕ). front ++ (c ++ behind)) (row_record_lem row long))
      ∙ append_assoc front (row ++ behind) z
      ∙ ap (λ (l : List ℕ). front ++ l) (append_assoc row behind z ∙ sym slid.above)

  pub fresh-turn : Fresh others (records_at n new)
  fresh-turn = subst (Fresh others) (sym slid.stays) (fresh-rest others (record_at row) (records_at i old) fresh)

pub merged-end : (i : ℕ) (l : List ℕ) → i * row_long ≤ length l → merged [] i 0 l ≡ l
unfolding merged
merged-end i l h =
    let e : i + 0 ≡ i = omega arith in
    rw (gathered_none (records_at i l), e, flat-records i l h) (take-append-drop (i * row_long) l)

laid : (room : ℕ) (rs : List Record)
    → flat (map row_of rs) ++ replicate ((room - length rs) * row_long) 0 ≡ log_words room rs
unfolding log_words
laid room rs = refl

pub stayers_le : (ready low : Stamp) (rs : List Record) → length (stayers ready low rs) ≤ length rs
unfolding stayers
stayers_le ready low rs = keep_le (λ r. not (goes_by ready low r)) rs

-- by the lowest stamp of the table they are the records that remain
pub stayers-remaining :
    (ready s : Stamp) (rows : List Stamp) (rs : List Record) → s ∈ rows
    → stayers ready (lowest_from s rows) rs ≡ remaining ready rows rs
unfolding stayers remaining
stayers-remaining ready s rows rs among = sym (λ i. keep (λ r. not (may_go_lowest s rows among ready r i)) rs)

-- what stands past the rows in use, and past a gap behind them
module _ (room : ℕ) (rs : List Record) (eight : T (every whole_label rs)) where
  pub words-past : (m : ℕ) → length rs + m ≤ room
      → drop ((length rs + m) * row_long) (log_words room rs) ≡ replicate ((room - (length rs + m)) * row_long) 0
  unfolding log_words
  words-past m h =
      let f = flat (map row_of rs) in
      let zeros = replicate {A = ℕ} ((room - length rs) * row_long) 0 in
      let b : length f + length zeros ≡ room * row_long = sym (length-append f zeros)
      ∙ length-log room rs eight (omega arith) in
      let c : length zeros ≡ (room - length rs) * row_long = length-replicate {A = ℕ} ((room - length rs) * row_long)
      0 in
      let a : (length rs + m) * row_long ≡ length f + m * row_long = omega arith in
      let s : (room - length rs) * row_long ≡ m * row_long + (room - (length rs + m)) * row_long = omega arith in
      rw a (drop-append-add f zeros (m * row_long)
      ∙ rw (s, ← replicate-append-replicate {A = ℕ} (m * row_long) ((room - (length rs + m)) * row_long) 0)
      (drop_at (replicate (m * row_long) 0) (replicate ((room - (length rs + m)) * row_long) 0) (m * row_long)
      (length-replicate (m * row_long) 0)))

  read : records_at (length rs) (log_words room rs) ≡ rs
  read = ap (records_at (length rs)) (sym (append-nil (log_words room rs))) ∙ records-words room rs [] eight

  pub merged-words : (new : List Record) → Fresh new rs → length rs + length new ≤ room
      → merged new (length rs) (length new) (log_words room rs) ≡ log_words room (gathered new rs)
  unfolding merged
  merged-words new fresh h =
      let e : length (gathered new rs) ≡ length rs + length new = length-gathered new rs fresh ∙ omega arith in
      rw (read, words-past (length new) h, ← e) (laid room (gathered new rs))

  pub dropped-words :
      (ready low : Stamp) → length rs ≤ room
      → dropped ready low (length rs) (log_words room rs) ≡ log_words room (stayers ready low rs)
  unfolding dropped
  dropped-words ready low h =
      let k = length (stayers ready low rs) in
      let l : k ≤ length rs = stayers_le ready low rs in
      let e : length rs + 0 ≡ length rs = omega arith in
      let p : drop (length rs * row_long) (log_words room rs)
      ≡ replicate ((room - length rs) * row_long) 0 = rw e at (words-past 0 (omega arith)) in
      let s : (length rs - k) * row_long + (room - length rs) * row_long ≡ (room - k) * row_long = omega arith in
      let one = replicate-append-replicate {A = ℕ} ((length rs - k) * row_long) ((room - length rs) * row_long) 0 in
      rw (read, p, one, s) (laid room (stayers ready low rs))
