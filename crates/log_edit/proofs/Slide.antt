-- A row slid in: one turn and the end of the search for its place and of the shift, and what they come to. Assumes
-- nothing.
use Prim.Native.Nat.{ℕ, zero, suc, ◌+◌, ◌-◌, ◌*◌, ◌≤◌, ◌<◌}
use native.Mathlib.Omega.{arith}
use mathlib.Core.Path.{◌≡◌, sym, ap, subst, ◌∙◌}
use mathlib.Core.Bool.{Bool, true, false, not}
use mathlib.Core.List.{List, [], ◌∷◌, ◌++◌, map, append_assoc}
use Rattle.std.proofs.Common.{◌⊎◌, inl, inr}
use lib.Dec.{T}
use Rattle.std.specs.List.{copy_within}
use Rattle.std.specs.List.Sorted.{IsPartitionedBy}
use Rattle.std.proofs.lemmas.List.{length-map}
use lib.ListN.{get_or, get_or-map, length, take, drop}
use lib.Seq.{drop-drop}
use Rattle.lists.specs.Tests.{every}
use Rattle.lists.specs.Scan.{le_or_lt}
use Rattle.lists.specs.TestLaws.{get_or-every, get_or_in, clash, is_true, is_false, not-from, every-at}
use Rattle.lists.specs.Order.{key_before, rising}
use Rattle.lists.proofs.Sorted.{before_trans, head-before, tail-rising}
use Rattle.lists.specs.Part.{mid, patch, length-mid, length-patch, drop-patch}
use Rattle.lists.specs.Rows.{rows}
use Rattle.ledger.specs.Record.{Record, place}
use Rattle.book_log.specs.Region.{row_long, record_at, records_at}
use Rattle.book_log.specs.RegionLaws.{length-records}
use Rattle.book_log.specs.Walk.{record_in, records_from, row_record}
use Rattle.log_edit.specs.Merge.{before_of, after_of, Parted, Shifted, Slid}
use Rattle.log_edit.specs.MergeLaws.{parted}
use Rattle.log_edit.specs.RowLaws.{records-split, records-same, take-before, words-after}

-- an element of a rising list stands before a later one
rising_at : (rs : List Record) (d : Record) (k j : ℕ) → T (rising place rs) → k < j → j < length rs
    → T (key_before (place (get_or rs k d)) (place (get_or rs j d)))
rising_at [] d k j t l h = absurd (omega arith)
rising_at (x ∷ rs) d k zero t l h = absurd (omega arith)
rising_at (x ∷ rs) d zero (suc j) t l h = head-before place x rs t (get_or_in rs j d (omega arith))
rising_at (x ∷ rs) d (suc k) (suc j) t l h = rising_at rs d k j (tail-rising place x rs t) (omega arith) (omega arith)

module _ (row r : List ℕ) (i : ℕ) where
  abbrev pub after_row : Record → Bool
  after_row a = key_before (place (record_at row)) (place a)

  -- whether a row does not stand after the row
  abbrev pub stays : List ℕ → Bool
  stays c = not (after_row (record_at c))

  -- the rows that do not are the first
  pub partitioned : T (rising place (records_at i r)) → IsPartitionedBy stays (rows row_long i r)
  unfolding records_at
  partitioned t k j d l h e = go (le_or_lt j k)
    where
      cs : List (List ℕ)
      cs = rows row_long i r

      here : (m : ℕ) → record_at (get_or cs m d) ≡ get_or (map record_at cs) m (record_at d)
      here m = sym (get_or-map record_at cs m d)

      order : k < j → T (key_before (place (record_at (get_or cs k d))) (place (record_at (get_or cs j d))))
      order g =
          let stand = rising_at (map record_at cs) (record_at d) k j t g (simp length-map h) in
          let first = get_or (map record_at cs) k (record_at d) in
          subst (λ (x : Record). T (key_before (place x) (place (record_at (get_or cs j d))))) (sym (here k))
          (subst (λ (x : Record). T (key_before (place first) (place x))) (sym (here j)) stand)

      go : (j ≤ k) ⊎ (k < j) → stays (get_or cs k d) ≡ true
      go (inl g) =
          let same : j ≡ k = omega arith in
          subst (λ (m : ℕ). stays (get_or cs m d) ≡ true) same e
      go (inr g) =
          let a = record_at (get_or cs k d) in
          let b = record_at (get_or cs j d) in
          is_true (stays (get_or cs k d))
          (not-from (after_row a)
          (λ u. clash (after_row b) (before_trans (place (record_at row)) (place a) (place b) u (order g))
          (subst T (sym e) tt)))

  module _
      (n : ℕ) (within : n ≤ i) (low : (k : ℕ) → k < n → after_row (row_record r (k * row_long)) ≡ false)
      (high : (k : ℕ) → n ≤ k → k < i → after_row (row_record r (k * row_long)) ≡ true) where
    before : T (every (λ a. not (after_row a)) (records_at n r))
    before =
        get_or-every (λ a. not (after_row a)) (records_at n r) (record_at [])
        (λ k h. let l : k < n = omega (arith, length-records n r) in
        rw (record_in n r k l, low k l) tt)

    farther : (k : ℕ) → row_record (drop (n * row_long) r) (k * row_long) ≡ row_record r ((n + k) * row_long)
    unfolding row_record
    farther k =
        let e : n * row_long + k * row_long ≡ (n + k) * row_long = omega arith in
        rw (drop-drop (k * row_long) (n * row_long) r, e)

    behind : T (every after_row (records_from i r n (n * row_long)))
    unfolding records_from
    behind =
        get_or-every after_row (records_at (i - n) (drop (n * row_long) r)) (record_at [])
        (λ k h. let l : k < i - n = omega (arith, length-records (i - n) (drop (n * row_long) r)) in
        rw (record_in (i - n) (drop (n * row_long) r) k l, farther k, high (n + k) (omega arith) (omega arith)) tt)

    pub parted_at : Parted i row r n
    parted_at =
        let s = records-split i n r within in
        let w = parted (record_at row) (records_at n r) (records_from i r n (n * row_long))
        (λ z m. is_false (after_row z) (every-at (λ a. not (after_row a)) (records_at n r) before m))
        (λ z m. is_true (after_row z) (every-at after_row (records_from i r n (n * row_long)) behind m)) in
        record {
          fewer = within;
          before = sym (ap (before_of (record_at row)) s ∙ w.0);
          after = sym (ap (after_of (record_at row)) s ∙ w.1);
        }

-- words copied to another place of their slice are put there as a part, and the shift is one such copy
pub copied : (r : List ℕ) (i j d : ℕ) → copy_within r i j d ≡ patch d (j - i) r (mid i (j - i) r)
unfolding patch mid
copied r i j d =
    append_assoc (take d r) (take (j - i) (drop i r)) (drop (d + (j - i)) r)
    ∙ rw (← drop-drop (j - i) d r)

pub shifted : (from to by : ℕ) (r new : List ℕ) → from ≤ to → to + by ≤ length r
    → new ≡ copy_within r from to (from + by) → Shifted from to by r new
shifted from to by r new h fits e =
    let k = to - from in
    let at : from + by + k ≡ to + by = omega arith in
    let room : from + by + k ≤ length r = omega arith in
    let wide : length (mid from k r) ≡ k = length-mid from k r (omega arith) in
    let put : new ≡ patch (from + by) k r (mid from k r) = e ∙ copied r from to (from + by) in
    record {
      long = rw put (length-patch (from + by) k r (mid from k r) room wide);
      below = rw put (take-before (from + by) k r (mid from k r) from room wide (omega arith));
      above = rw put (drop-patch (from + by) k r (mid from k r) room wide
          ∙ ap (λ (l : List ℕ). mid from k r ++ l) (drop-drop k (from + by) r ∙ rw at));
    }

-- the search, the shift and the row put in its place
pub slid :
    (i gap n : ℕ) (row old m new : List ℕ) → 1 ≤ gap → (i + gap) * row_long ≤ length old → length row ≡ row_long
    → Parted i row old n
    → Shifted (n * row_long) (i * row_long) (gap * row_long) old m → new
    ≡ patch ((n + (gap - 1)) * row_long) row_long m row
    → Slid i gap row old new n
slid i gap n row old m new g h long p s e =
    let f = p.fewer in
    let at = (n + (gap - 1)) * row_long in
    let fits : at + row_long ≤ length m = omega (arith, s.long) in
    let same : length new ≡ length old = rw e (length-patch at row_long m row fits long ∙ s.long) in
    let under : take (n * row_long) new
    ≡ take (n * row_long) old =
    rw e (take-before at row_long m row (n * row_long) fits long (omega arith) ∙ s.below) in
    let a : at + row_long ≡ n * row_long + gap * row_long = omega arith in
    let b : i * row_long + gap * row_long ≡ (i + gap) * row_long = omega arith in
    let top : drop (at + row_long) m ≡ mid (n * row_long) (i * row_long - n * row_long) old
    ++ drop ((i + gap) * row_long) old = rw (a, ← b) s.above in
    let words = words-after i n old f (omega arith) in
    record {
      fewer = f;
      long = same;
      stays = records-same n new old (omega arith) (omega arith) under ∙ p.before;
      above = rw e (drop-patch at row_long m row fits long
          ∙ ap (λ (l : List ℕ). row ++ l) (drop-drop row_long at m ∙ top ∙ rw (← words, p.after)));
    }
