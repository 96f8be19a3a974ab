-- Laws of the log: what is gathered, newly applied and left, and how many. Assumes nothing.
use Rattle.std.specs.Prelude.{ℕ, ◌<◌, ◌≤◌, ◌+◌, suc, ◌≡◌, ◌⊎◌, not, ◌&&◌, Bool, true, false, ◌||◌, List, [], ◌∷◌, T}
use Rattle.std.specs.Prelude.{ltb, eqb, get_or, length}
use Rattle.std.proofs.Common.{arith, ap, subst, sym, inr, inl, ltb→lt, nltb→le}
use mathlib.Core.List.Memᴰ
use Rattle.lists.specs.TestLaws.{there, here, ◌∈◌, keep_mem, mem-keep, not-from, and_l, both, either, tell, keep_le}
use Rattle.lists.specs.TestLaws.{bit, keep-keep_le, keep_share, or_cases, all_below-at, all_below-from, or_l, or_r}
use Rattle.lists.specs.TestLaws.{and_r}
use Rattle.lists.specs.TestLaws.{none_in}
use Rattle.lists.specs.Order.{rising, key_before}
use Rattle.lists.proofs.Sorted.{Put, head-before, tail-rising, put_all, keep-rising}
use Rattle.lists.specs.Tests.{keep, all_below}
use Rattle.stamp.specs.Laws.{Covers, total_mono, total-raised, part_either, part-merge, Fits, fits-merge}
use Rattle.stamp.specs.Stamp.{Stamp, part, total, replace}
use Rattle.ledger.specs.Log.{gathered, unknowns, newly_applied, remaining, waiting_in, all_held, gapless, merge_all}
use Rattle.ledger.specs.Message.{Message}
use Rattle.ledger.specs.Record.{Record, place, is_known, is_applied, may_go, is_waiting, has, everywhere, stamp_of}
use Rattle.ledger.proofs.RecordLaws.{unknown_lt, known_le, waiting-not, applied_mono, waiting-from}

-- what is gathered
pub put-log : (new log : List Record) → Put place new log (gathered new log)
unfolding gathered
put-log new log = put_all place new log

pub same_place : (x y : Record) → place x ≡ place y → (x.origin ≡ y.origin) × (x.number ≡ y.number)
same_place x y e = (ap (λ (l : List ℕ). get_or l 0 0) e, ap (λ (l : List ℕ). get_or l 1 0) e)

-- what is new, what is newly applied, what stays
pub unknowns_mem : (s : Stamp) (rs : List Record) (r : Record) → r ∈ unknowns s rs
    → (r ∈ rs) × (part s r.origin < r.number)
unfolding unknowns
unknowns_mem s rs r m = go (keep_mem (λ x. not (is_known s x)) rs m)
  where
    go : (r ∈ rs) × T (not (is_known s r)) → (r ∈ rs) × (part s r.origin < r.number)
    go w = (w.0, unknown_lt s r w.1)

pub mem-unknowns : (s : Stamp) (rs : List Record) (r : Record) → r ∈ rs → part s r.origin < r.number
    → r ∈ unknowns s rs
unfolding unknowns
mem-unknowns s rs r m h =
    mem-keep (λ x. not (is_known s x)) rs m (not-from (is_known s r) (λ k. omega (arith, known_le s r k)))

pub unknowns-rising : (s : Stamp) (rs : List Record) → T (rising place rs) → T (rising place (unknowns s rs))
unfolding unknowns
unknowns-rising s rs o = keep-rising place (λ x. not (is_known s x)) rs o

pub newly_mem :
    (before now : Stamp) (rs : List Record) (r : Record) → r ∈ newly_applied before now rs
    → (r ∈ rs) × T (is_applied now r) × T (not (is_applied before r))
unfolding newly_applied
newly_mem before now rs r m = go (keep_mem (λ x. is_applied now x && not (is_applied before x)) rs m)
  where
    go :
        (r ∈ rs) × T (is_applied now r && not (is_applied before r))
        → (r ∈ rs) × T (is_applied now r) × T (not (is_applied before r))
    go w = (
      w.0,
      and_l (is_applied now r) (not (is_applied before r)) w.1,
      and_r (is_applied now r) (not (is_applied before r)) w.1,
    )

pub mem-newly : (before now : Stamp) (rs : List Record) (r : Record) → r ∈ rs → T (is_applied now r)
    → T (not (is_applied before r)) → r ∈ newly_applied before now rs
unfolding newly_applied
mem-newly before now rs r m a n =
    mem-keep (λ x. is_applied now x && not (is_applied before x)) rs m
    (both (is_applied now r) (not (is_applied before r)) a n)

pub remaining_mem : (s : Stamp) (rows : List Stamp) (rs : List Record) (r : Record) → r ∈ remaining s rows rs
    → (r ∈ rs) × T (not (may_go s rows r))
unfolding remaining
remaining_mem s rows rs r m = keep_mem (λ x. not (may_go s rows x)) rs m

pub remains_or_goes : (s : Stamp) (rows : List Stamp) (rs : List Record) (r : Record) → r ∈ rs
    → (r ∈ remaining s rows rs) ⊎ T (may_go s rows r)
unfolding remaining
remains_or_goes s rows rs r m =
    either (tell (may_go s rows r)) (λ g. inr g) (λ g. inl (mem-keep (λ x. not (may_go s rows x)) rs m g))

pub remaining-rising : (s : Stamp) (rows : List Stamp) (rs : List Record) → T (rising place rs)
    → T (rising place (remaining s rows rs))
unfolding remaining
remaining-rising s rows rs o = keep-rising place (λ r. not (may_go s rows r)) rs o

pub remaining_le : (s : Stamp) (rows : List Stamp) (rs : List Record) → length (remaining s rows rs) ≤ length rs
unfolding remaining
remaining_le s rows rs = keep_le (λ r. not (may_go s rows r)) rs

-- a step applies or leaves waiting no more records than came or waited
balance : (a o w : Bool) → (T w → T (not a)) → (T o → T a) → bit (a && not o) + bit w ≤ bit (not o)
balance true true true f g = absurd (f tt)
balance true true false f g = omega arith
balance true false true f g = absurd (f tt)
balance true false false f g = omega arith
balance false true w f g = absurd (g tt)
balance false false true f g = omega arith
balance false false false f g = omega arith

imply : (p q : Bool) → (T p → T q) → bit p ≤ bit q
imply true true f = omega arith
imply true false f = absurd (f tt)
imply false q f = omega arith

pub few-newly :
    (s s' y y' : Stamp) (rows : List Stamp) (new log : List Record) → Covers y' y
    → ((r : Record) → r ∈ log → r.number ≤ part s r.origin)
    → length (newly_applied y y' (gathered new log)) + length (waiting_in s' y' (remaining y' rows (gathered new log)))
    ≤ length new + length (waiting_in s y log)
unfolding newly_applied waiting_in remaining
few-newly s s' y y' rows new log rise known =
    let stays = keep-keep_le (is_waiting s' y') (λ r. not (may_go y' rows r)) all in
    omega (arith, stays, shared, (put-log new log).size still, old)
  where
    all : List Record
    all = gathered new log

    still : Record → Bool
    still r = not (is_applied y r)

    shared :
        length (keep (λ r. is_applied y' r && not (is_applied y r)) all) + length (keep (is_waiting s' y') all)
        ≤ length (keep still all)
    shared =
        keep_share (λ r. is_applied y' r && not (is_applied y r)) (is_waiting s' y') still all
        (λ r m. balance (is_applied y' r) (is_applied y r) (is_waiting s' y' r) (λ w. waiting-not s' y' r w)
        (λ o. applied_mono y y' r rise o))

    old : length (keep still log) ≤ length (keep (is_waiting s y) log)
    old =
        omega (
          arith,
          keep_share still (λ r. false) (is_waiting s y) log
              (λ r m. omega (arith, imply (still r) (is_waiting s y r) (λ n. waiting-from s y r (known r m) n))),
        )

-- what must be there, number by number
pub held_at : (n : ℕ) (s : Stamp) (rows : List Stamp) (log : List Record) → T (all_held n s rows log) → (k q : ℕ)
    → k < n
    → q < part s k → T (has log k (suc q)) ⊎ T (everywhere rows k (suc q))
unfolding all_held
held_at n s rows log t k q h l =
    or_cases (has log k (suc q)) (everywhere rows k (suc q))
    (all_below-at (part s k) (λ q'. has log k (suc q') || everywhere rows k (suc q'))
    (all_below-at n (λ k'. all_below (part s k') (λ q'. has log k' (suc q') || everywhere rows k' (suc q'))) t k h) q l)

pub held-from : (n : ℕ) (s : Stamp) (rows : List Stamp) (log : List Record)
    → ((k q : ℕ) → k < n → q < part s k → T (has log k (suc q)) ⊎ T (everywhere rows k (suc q)))
    → T (all_held n s rows log)
unfolding all_held
held-from n s rows log f =
    all_below-from n (λ k. all_below (part s k) (λ q. has log k (suc q) || everywhere rows k (suc q)))
    (λ k h. all_below-from (part s k) (λ q. has log k (suc q) || everywhere rows k (suc q))
    (λ q l. either (f k q h l) (λ x. or_l (has log k (suc q)) (everywhere rows k (suc q)) x)
    (λ x. or_r (has log k (suc q)) (everywhere rows k (suc q)) x)))

pub gapless-at : (n : ℕ) (s : Stamp) (m : Message) → T (gapless n s m) → (k q : ℕ) → k < n → part s k ≤ q
    → q < part m.stamp k → T (has m.records k (suc q))
unfolding gapless
gapless-at n s m t k q h lo hi =
    either (or_cases (ltb q (part s k)) (has m.records k (suc q))
    (all_below-at (part m.stamp k) (λ q'. ltb q' (part s k) || has m.records k (suc q'))
    (all_below-at n (λ k'. all_below (part m.stamp k') (λ q'. ltb q' (part s k') || has m.records k' (suc q'))) t k
    h) q hi))
    (λ u. absurd (omega (arith, ltb→lt q (part s k) u))) (λ u. u)

pub gapless-from : (n : ℕ) (s : Stamp) (m : Message)
    → ((k q : ℕ) → k < n → part s k ≤ q → q < part m.stamp k → T (has m.records k (suc q))) → T (gapless n s m)
unfolding gapless
gapless-from n s m f =
    all_below-from n (λ k. all_below (part m.stamp k) (λ q. ltb q (part s k) || has m.records k (suc q)))
    (λ k h. all_below-from (part m.stamp k) (λ q. ltb q (part s k) || has m.records k (suc q))
    (λ q l. either (tell (ltb q (part s k))) (λ u. or_l (ltb q (part s k)) (has m.records k (suc q)) u)
    (λ u. or_r (ltb q (part s k)) (has m.records k (suc q)) (f k q h (nltb→le q (part s k) u) l))))

-- places in order
place_after : (x r : Record) → T (key_before (place x) (place r)) → r.origin ≡ x.origin → x.number < r.number
place_after x r t e =
    either (or_cases (ltb x.origin r.origin)
    (eqb x.origin r.origin && (ltb x.number r.number || eqb x.number r.number && false)) t)
    (λ h. absurd (omega (arith, ltb→lt x.origin r.origin h)))
    (λ h. either (or_cases (ltb x.number r.number) (eqb x.number r.number && false)
    (and_r (eqb x.origin r.origin) (ltb x.number r.number || eqb x.number r.number && false) h))
    (λ l. ltb→lt x.number r.number l)
    (λ l. absurd (and_r (eqb x.number r.number) false l)))

-- in a rising list a later record of one origin has a larger number
pub later : (x : Record) (xs : List Record) → T (rising place (x ∷ xs)) → (r : Record) → r ∈ xs → r.origin ≡ x.origin
    → x.number < r.number
later x xs o r m e = place_after x r (head-before place x xs o m) e

-- new records in order, each above s and at most hi, raise the sum by one each
pub raise-total :
    (xs : List Record) (s hi : Stamp) → T (rising place xs) → ((r : Record) → r ∈ xs → part s r.origin < r.number)
    → ((r : Record) → r ∈ xs → r.number ≤ part hi r.origin) → Covers hi s → total s + length xs ≤ total hi
raise-total [] s hi o f g c = omega (arith, total_mono s hi c)
raise-total (x ∷ xs) s hi o f g c =
    omega (
      arith,
      total-raised s x.origin x.number (f x here),
      raise-total xs (replace s x.origin x.number) hi (tail-rising place x xs o)
          (λ r m. either (part_either s x.origin x.number r.origin)
          (λ e. omega (arith, e.1, later x xs o r m e.0)) (λ e. omega (arith, e, f r (there m))))
          (λ r m. g r (there m))
          (λ k. either (part_either s x.origin x.number k) (λ e. omega (arith, e.1, at k e.0))
          (λ e. omega (arith, e, c k))),
    )
  where
    at : (k : ℕ) → k ≡ x.origin → x.number ≤ part hi k
    at k e = subst (λ (j : ℕ). x.number ≤ part hi j) (sym e) (g x here)

-- the merge of many
pub merge_all_base : (rs : List Record) (v : Stamp) → Covers (merge_all rs v) v
merge_all_base [] v k = omega arith
merge_all_base (r ∷ rs) v k = omega (arith, part-merge (stamp_of r) (merge_all rs v) k, merge_all_base rs v k)

pub merge_all-over : (rs : List Record) (v : Stamp) {r : Record} → r ∈ rs → Covers (merge_all rs v) (stamp_of r)
merge_all-over [] v m k = none_in m
merge_all-over (x ∷ xs) v {r} m k =
    either (Memᴰ.cases_cons m)
    (λ e. omega (arith, part-merge (stamp_of x) (merge_all xs v) k, ap (λ (y : Record). part (stamp_of y) k) e))
    (λ m'. omega (arith, part-merge (stamp_of x) (merge_all xs v) k, merge_all-over xs v m' k))

pub merge_all_under : (rs : List Record) (v s : Stamp) → ((r : Record) → r ∈ rs → Covers s (stamp_of r)) → Covers s v
    → Covers s (merge_all rs v)
merge_all_under [] v s f c k = c k
merge_all_under (r ∷ rs) v s f c k =
    omega (
      arith,
      part-merge (stamp_of r) (merge_all rs v) k,
      f r here k,
      merge_all_under rs v s (λ x m. f x (there m)) c k,
    )

pub merge_all-fits : (n : ℕ) (rs : List Record) (v : Stamp) → ((r : Record) → r ∈ rs → Fits n (stamp_of r)) → Fits n v
    → Fits n (merge_all rs v)
merge_all-fits n [] v f g = g
merge_all-fits n (r ∷ rs) v f g =
    fits-merge n (stamp_of r) (merge_all rs v) (f r here) (merge_all-fits n rs v (λ x m. f x (there m)) g)
