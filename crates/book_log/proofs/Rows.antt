-- Laws: what a chain over the log's rows says of the records that they hold. Assumes nothing.
--     count_rows      how many pass a test
--     position_rows   where the first stands that passes
--     rising_rows     whether they rise, from what neighbours answer
use Rattle.std.specs.Prelude.{ℕ, zero, suc, ◌+◌, ◌<◌, ◌≡◌, refl, Bool, true, false, not, ◌&&◌, cond, List, [], ◌∷◌, T}
use Rattle.std.specs.Prelude.{length, get_or, count_by, position, filter}
use Rattle.std.specs.List.{IsAllAdjacentAnswer, prefix_len}
use Rattle.std.proofs.Common.{arith, sym, ap, ap₂, subst, ◌∙◌}
use Rattle.std.proofs.lemmas.List.{length-map}
use Rattle.std.proofs.lemmas.List.Folds.{fold-map}
use Rattle.std.proofs.lemmas.List.Sums.{length-filter}
use mathlib.Core.Bool.{and-false}
use mir.Val.{bool_byte}
use Rattle.lists.specs.TestLaws.{bit}
use Rattle.lists.specs.Order.{key_before, rising}
use Rattle.lists.proofs.Neighbours.{rising-next}
use Rattle.stamp.specs.Stamp.{Stamp, at_most}
use Rattle.ledger.specs.Record.{Record, place, is_applied, stamp_of, record_fits}
use Rattle.ledger.proofs.RecordLaws.{obeys}
use Rattle.book_log.specs.Region.{record_at, records_of}
use Rattle.book_log.specs.RowSound.{stamp-covered}

pub count_rows : (p : Record → Bool) (rs : List (List ℕ))
    → length (filter p (records_of rs)) ≡ count_by (λ r. p (record_at r)) rs
count_rows p rs = length-filter p (records_of rs) ∙ fold-map (λ a r. a + cond (p r) 1 0) record_at 0 rs

prefix_rows : (p : Record → Bool) (rs : List (List ℕ))
    → prefix_len p (records_of rs) ≡ prefix_len (λ r. p (record_at r)) rs
prefix_rows p [] = refl
prefix_rows p (r ∷ rs) = ap (λ (n : ℕ). cond (p (record_at r)) (1 + n) 0) (prefix_rows p rs)

pub position_rows : (p : Record → Bool) (rs : List (List ℕ))
    → position p (records_of rs) ≡ position (λ r. p (record_at r)) rs
position_rows p rs = rw (prefix_rows (λ r. not (p r)) rs, length-map rs record_at)

-- what a flag counts for
pub byte_bit : (c : Bool) → bool_byte c ≡ bit c
byte_bit true = refl
byte_bit false = refl

-- one row stands before another
abbrev pub before : List ℕ → List ℕ → Bool
before a b = key_before (place (record_at a)) (place (record_at b))

-- what the k-th and the next of the rows behind the first answer
one_on : (r : List ℕ) (rs : List (List ℕ)) (k : ℕ) (d : List ℕ)
    → before (get_or (r ∷ rs) (suc k) d) (get_or (r ∷ rs) (suc k + 1) d) ≡ before (get_or rs k d) (get_or rs (k + 1) d)
one_on r rs k d =
    let e : suc k + 1 ≡ suc (k + 1) = omega arith in
    ap (λ (n : ℕ). before (get_or rs k d) (get_or (r ∷ rs) n d)) e

pub rising_rows : (rs : List (List ℕ)) (b : Bool) → IsAllAdjacentAnswer (λ x y c. c ≡ before x y) rs b
    → b ≡ rising place (records_of rs)
rising_rows [] true h = refl
rising_rows [] false h = absurd (omega (arith, h.1))
rising_rows (r ∷ []) true h = refl
rising_rows (r ∷ []) false h = absurd (omega (arith, h.1))
rising_rows (r ∷ s ∷ rs) true h =
    rw (rising-next place (record_at r) (record_at s) (records_of rs))
    (ap₂ ◌&&◌ (h 0 r (omega arith))
    (rising_rows (s ∷ rs) true (λ k d l. h (suc k) d (omega arith) ∙ one_on r (s ∷ rs) k d)))
rising_rows (r ∷ s ∷ rs) false h =
    rw (rising-next place (record_at r) (record_at s) (records_of rs))
    (go (λ k l f. rising_rows (s ∷ rs) false (k, l, f)) h.0 h.1 h.2)
  where
    go : ((k : ℕ) → k + 1 < length (s ∷ rs)
        → ((d : List ℕ) → false ≡ before (get_or (s ∷ rs) k d) (get_or (s ∷ rs) (k + 1) d))
        → false ≡ rising place (records_of (s ∷ rs)))
        → (k : ℕ) → k + 1 < length (r ∷ s ∷ rs)
        → ((d : List ℕ) → false ≡ before (get_or (r ∷ s ∷ rs) k d) (get_or (r ∷ s ∷ rs) (k + 1) d))
        → false ≡ (before r s && rising place (records_of (s ∷ rs)))
    go on zero l f = ap (λ (b : Bool). b && rising place (records_of (s ∷ rs))) (f r)
    go on (suc k) l f =
        sym (and-false (before r s))
        ∙ ap (λ (b : Bool). before r s && b) (on k (omega arith) (λ d. f d ∙ one_on r (s ∷ rs) k d))

-- once a record fits, the value stamp covers its stamp exactly when the record is applied under it
pub value_covers : (n : ℕ) (s : Stamp) (r : Record) → record_fits (λ _. true) n r ≡ true
    → at_most (stamp_of r) s ≡ is_applied s r
value_covers n s r h = stamp-covered s r (obeys (λ _. true) n r (subst T (sym h) tt)).label_lt
