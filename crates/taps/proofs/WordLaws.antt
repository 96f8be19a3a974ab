-- What the library's searches and moves over the counted taps' words come to. Assumes nothing.
--     sorted-rising   neighbours that rise are a rising list
--     put-in-place    a new word put where the smaller words end
use Prim.Native.Nat.{ℕ, zero, suc, ◌+◌, ◌-◌, ◌≤◌, ◌<◌}
use native.Mathlib.Omega.{arith}
use mathlib.Core.Path.{◌≡◌, refl, sym, ap, ap₂, subst, ◌∙◌}
use mathlib.Core.Logic.{◌≢◌}
use mathlib.Core.Bool.{Bool, true, false, not, ◌&&◌, ◌||◌}
use mathlib.Core.List.{List, [], ◌∷◌, ◌++◌, append_assoc}
use lib.Dec.{T, eqb, ltb}
use lib.ListN.{length, take, drop, get_or, set}
use lib.Seq.{length-take-le, take-take, paste, set-append_left, set_split}
use borrow.Author.Tests.{lt-ltb, le-ltb}
use Rattle.std.proofs.Common.{ltb→lt, ltb-true, ltb-false, drop_of_length-le}
use Rattle.std.proofs.lemmas.List.{drop-take}
use Rattle.std.specs.List.{AllWithin, AllAdjacentBelow, IsAllAdjacentAnswer}
use Rattle.std.specs.List.Sorted.{IsNonDecreasingBy, IsPartitionPoint}
use Rattle.lists.proofs.Neighbours.{rising-next}
use Rattle.lists.specs.Order.{key_before, rising, insert}
use Rattle.lists.proofs.ElementLaws.{eq→eqb}
use Rattle.lists.specs.TestLaws.{clash, and_l, and_r, every-at, get_or_in}
use Rattle.lists.specs.Tests.{every, exists}
use Rattle.tally.specs.Standing.{among}
use Rattle.tally.specs.Tap.{tap_of}
use Rattle.taps.specs.Region.{taps_at, inserted_at}
use Rattle.taps.specs.RegionLaws.{word_key, word-before, among-taps, inserted-by-words}

-- each word below the next
rising-adjacent : (l : List ℕ) → AllAdjacentBelow (λ v w. true ≡ ltb v w) l (length l) → rising word_key l ≡ true
rising-adjacent [] h = refl
rising-adjacent (x ∷ []) h = refl
rising-adjacent (x ∷ y ∷ l) h =
    rising-next word_key x y l
    ∙ rw (word-before x y, ← h 0 0 (omega arith)) (rising-adjacent (y ∷ l) further)
  where
    further : AllAdjacentBelow (λ v w. true ≡ ltb v w) (y ∷ l) (length (y ∷ l))
    further k d b = let e : suc k + 1 ≡ suc (k + 1) = omega arith in rw e at (h (suc k) d (omega arith))

-- a word that is not below the next
rising-broken : (l : List ℕ) (k : ℕ) → k + 1 < length l
    → ((d : ℕ) → false ≡ ltb (get_or l k d) (get_or l (k + 1) d)) → rising word_key l ≡ false
rising-broken [] k h b = absurd (omega arith)
rising-broken (x ∷ []) k h b = absurd (omega arith)
rising-broken (x ∷ y ∷ l) zero h b = rising-next word_key x y l ∙ rw (word-before x y, ← b 0)
rising-broken (x ∷ y ∷ l) (suc k) h b =
    let e : suc k + 1 ≡ suc (k + 1) = omega arith in
    rising-next word_key x y l
    ∙ ap (λ (c : Bool). key_before (word_key x) (word_key y) && c)
    (rising-broken (y ∷ l) k (omega arith) (λ d. rw e at (b d)))
    ∙ ends (key_before (word_key x) (word_key y))
  where
    ends : (c : Bool) → c && false ≡ false
    ends true = refl
    ends false = refl

pub sorted-rising : (l : List ℕ) (b : Bool) → IsAllAdjacentAnswer (λ v w c. c ≡ ltb v w) l b → b ≡ rising word_key l
sorted-rising l true h = sym (rising-adjacent l h)
sorted-rising l false h = sym (rising-broken l h.0 h.1 h.2)

-- a rising list does not fall
pub rising-ordered : (l : List ℕ) → T (rising word_key l) → IsNonDecreasingBy (λ v. v) l
rising-ordered [] t i j d le lt = absurd (omega arith)
rising-ordered (x ∷ l) t zero zero d le lt = omega arith
rising-ordered (x ∷ l) t zero (suc j) d le lt =
    let from = every (λ y. key_before (word_key x) (word_key y)) l in
    let y = get_or l j d in
    let below = every-at (λ z. key_before (word_key x) (word_key z)) l (and_l from (rising word_key l) t)
    (get_or_in l j d (omega arith)) in
    let up : x < y = ltb→lt x y (subst T (word-before x y) below) in
    omega arith
rising-ordered (x ∷ l) t (suc i) zero d le lt = absurd (omega arith)
rising-ordered (x ∷ l) t (suc i) (suc j) d le lt =
    rising-ordered l (and_r (every (λ y. key_before (word_key x) (word_key y)) l) (rising word_key l) t) i j d
    (omega arith) (omega arith)

before : (v w : ℕ) → v < w → key_before (word_key v) (word_key w) ≡ true
before v w l = word-before v w ∙ lt-ltb v w l

after : (v w : ℕ) → w ≤ v → key_before (word_key v) (word_key w) ≡ false
after v w l = word-before v w ∙ le-ltb v w l

neither : (a b : Bool) → T (not (a || b)) → T (not a) × T (not b)
neither false false t = (tt, tt)
neither false true t = absurd t
neither true b t = absurd t

-- a new word's place is where the smaller words end
insert-at : (w : ℕ) (l : List ℕ) (i : ℕ) → IsPartitionPoint (λ v. ltb v w ≡ true) (λ v. ltb v w ≡ false) l i
    → i ≤ length l → T (not (exists (λ v. eqb v w) l)) → insert word_key w l ≡ take i l ++ (w ∷ drop i l)
insert-at w [] zero p h n = refl
insert-at w [] (suc i) p h n = absurd (omega arith)
insert-at w (x ∷ l) zero p h n =
    let larger : w ≤ x = ltb-false x w (p.1 zero zero (omega arith) (omega arith)) in
    let other = neither (eqb x w) (exists (λ v. eqb v w) l) n in
    let apart : x ≢ w = λ e. clash (eqb x w) (eq→eqb x w e) other.0 in
    let up : w < x = omega (arith, apart) in
    rw (before w x up)
insert-at w (x ∷ l) (suc i) p h n =
    let up : x < w = ltb-true x w (p.0 zero zero (omega arith) (omega arith)) in
    let smaller : AllWithin (λ v. ltb v w ≡ true) l 0 i = λ k d a b. p.0 (suc k) d (omega arith) (omega arith) in
    let larger : AllWithin (λ v. ltb v w ≡ false) l i (length l) =
    λ k d a b. p.1 (suc k) d (omega arith) (omega arith) in
    let rest = insert-at w l i (smaller, larger)
    (omega arith) (neither (eqb x w) (exists (λ v. eqb v w) l) n).1 in
    rw (after w x (omega arith), before x w up) (ap (λ (k : List ℕ). x ∷ k) rest)

-- the larger words moved up by one, and the new one in the gap
module _ (r : List ℕ) (n i w : ℕ) (le : i ≤ n) (lt : n < length r) where
  abbrev moved : List ℕ
  moved = take (n - i) (drop i r) ++ drop (i + 1 + (n - i)) r

  gap : set (take (i + 1) r) i w ≡ take i r ++ (w ∷ [])
  gap =
      let long = length-take-le (i + 1) r (omega arith) in
      let all : length (take (i + 1) r) ≤ suc i = omega (arith, long) in
      set_split (take (i + 1) r) i w (omega (arith, long))
      ∙ ap₂ (λ (a b : List ℕ). a ++ (w ∷ b)) (take-take i (i + 1) r (omega arith))
      (drop_of_length-le (take (i + 1) r) all)

  moved-up : set (paste r (i + 1) (drop i r) (n - i)) i w
      ≡ (take i (take n r) ++ (w ∷ drop i (take n r))) ++ drop (n + 1) r
  moved-up =
      let e : i + (n - i) ≡ n = omega arith in
      let f : i + 1 + (n - i) ≡ n + 1 = omega arith in
      ap (λ (a : List ℕ). set a i w)
      (append_assoc (take (i + 1) r) (take (n - i) (drop i r)) (drop (i + 1 + (n - i)) r))
      ∙ set-append_left (take (i + 1) r) moved i w (omega (arith, length-take-le (i + 1) r (omega arith)))
      ∙ ap (λ (a : List ℕ). a ++ moved) gap
      ∙ append_assoc (take i r) (w ∷ []) moved
      ∙ ap₂ (λ (a b : List ℕ). a ++ (w ∷ (b ++ drop (i + 1 + (n - i)) r))) (sym (take-take i n r le))
      (sym (drop-take i (n - i) r))
      ∙ ap₂ (λ (j k : ℕ). take i (take n r) ++ (w ∷ (drop i (take j r) ++ drop k r))) e f
      ∙ sym (append_assoc (take i (take n r)) (w ∷ drop i (take n r)) (drop (n + 1) r))

  pub put-in-place :
      IsPartitionPoint (λ v. ltb v w ≡ true) (λ v. ltb v w ≡ false) (take n r) i
      → T (not (among (taps_at n r) (tap_of w)))
      → set (paste r (i + 1) (drop i r) (n - i)) i w ≡ inserted_at n w r
  unfolding taps_at
  put-in-place p new =
      moved-up
      ∙ sym (inserted-by-words n w r
      ∙ ap (λ (l : List ℕ). l ++ drop (n + 1) r)
      (insert-at w (take n r) i p (omega (arith, length-take-le n r (omega arith)))
      (subst (λ (c : Bool). T (not c)) (among-taps (take n r) w) new)))
