-- Laws: no number missing, found in one pass. Assumes nothing.
--     climb-part      part k of the climb: exactly the numbers up to it are in the list or at most the start
--     climb-holds     every number up to an end stamp, for the first n origins
--     all_held-climb   every known record is in the log or known everywhere
--     gapless-climb   a message has no gap
use Rattle.std.specs.Prelude.{ℕ, suc, ◌≤◌, ◌<◌, ◌≡◌, ◌⊎◌, ◌≢◌, Bool, ◌&&◌, ◌||◌, List, [], ◌∷◌, T, leb, ltb, eqb}
use Rattle.std.specs.Prelude.{length, set}
use Rattle.std.proofs.Common.{arith, sym, ap, ◌∙◌, inl, inr, leb→le, le→leb, length-set, get_or-set_same}
use Rattle.std.proofs.Common.{get_or-set_other, eq-eqb, ne_eqb}
use Rattle.std.proofs.Math.Bool.{or_comm}
use mathlib.Core.List.Memᴰ
use Rattle.lists.specs.Scan.{le_or_lt}
use Rattle.lists.specs.Tests.{all_below}
use Rattle.lists.specs.Order.{rising}
use Rattle.lists.specs.TestLaws.{◌∈◌, here, either, or_cases, or_l, or_r, all_below-at, all_below-from, same_test}
use Rattle.lists.proofs.ElementLaws.{same_or_not, below-same}
use Rattle.lists.proofs.Sorted.{tail-rising}
use Rattle.stamp.specs.Stamp.{Stamp, part}
use Rattle.ledger.specs.Record.{Record, place, has}
use Rattle.ledger.proofs.RecordLaws.{has-at, has-from}
use Rattle.ledger.specs.Log.{all_held, gapless}
use Rattle.ledger.proofs.LogLaws.{later}
use Rattle.ledger.specs.Message.{Message}
use Rattle.book_log.specs.Lowest.{lowest_from}
use Rattle.book_log.proofs.LowestLaws.{everywhere_lowest}
use Rattle.book_log.specs.Held.{holds_all, raised, climbed, climb}

-- one record raises the part of its origin, if it is the next; else the part stays
abbrev Raises : Stamp → Record → ℕ → Type 0
Raises s x k = (x.origin ≡ k) × (x.number ≡ suc (part s k)) × (part (climbed s x) k ≡ suc (part s k))

abbrev Stays : Stamp → Record → ℕ → Type 0
Stays s x k = (x.origin ≡ k → x.number ≢ suc (part s k)) × (part (climbed s x) k ≡ part s k)

one_record : (s : Stamp) (x : Record) (k : ℕ) → k < length s → Raises s x k ⊎ Stays s x k
one_record s x k h =
    either (same_or_not k x.origin) (λ e. at e (same_or_not x.number (suc (part s k))))
    (λ e. inr (λ e'. absurd (e (sym e')), get_or-set_other s x.origin k (raised (part s x.origin) x.number) 0 e))
  where
    there-set : k ≡ x.origin → part (climbed s x) k ≡ raised (part s k) x.number
    there-set e = ap (λ (j : ℕ). part (set s j (raised (part s j) x.number)) k) (sym e)
        ∙ get_or-set_same s k (raised (part s k) x.number) 0 h

    at : k ≡ x.origin → (x.number ≡ suc (part s k)) ⊎ (x.number ≢ suc (part s k)) → Raises s x k ⊎ Stays s x k
    at e (inl q) = inl (sym e, q, there-set e ∙ rw (eq-eqb _ _ q) q)
    at e (inr q) = inr (λ _. q, there-set e ∙ rw (ne_eqb _ _ q))

-- number suc q of origin k is there or at most the start, for each q below e
abbrev Found : List Record → Stamp → ℕ → ℕ → Type 0
Found rs s k e = (q : ℕ) → q < e → T (has rs k (suc q)) ⊎ (suc q ≤ part s k)

none_has : (k q : ℕ) → T (has [] k q) → ⊥
unfolding has
none_has k q t = t

more-has : (x : Record) (xs : List Record) (k q : ℕ) → T (has xs k q) → T (has (x ∷ xs) k q)
unfolding has
more-has x xs k q t = or_r (eqb x.origin k && eqb x.number q) (has xs k q) t

found : (rs : List Record) (s : Stamp) (k e : ℕ) → k < length s → e ≤ part (climb s rs) k → Found rs s k e
unfolding climb
found [] s k e h l q b = inr (omega arith)
found (x ∷ xs) s k e h l q b =
    either (found xs (climbed s x) k e (rw (length-set s x.origin (raised (part s x.origin) x.number)) h) l q
    b)
    (λ t. inl (more-has x xs k (suc q) t))
    (λ t. either (one_record s x k h) (λ u. new t u (le_or_lt (suc q) (part s k))) (λ u. inr (omega (arith, u.1))))
  where
    new : suc q ≤ part (climbed s x) k → Raises s x k → (suc q ≤ part s k) ⊎ (part s k < suc q)
        → T (has (x ∷ xs) k (suc q)) ⊎ (suc q ≤ part s k)
    new t u (inl o) = inr o
    new t u (inr o) = inl (has-from (x ∷ xs) k (suc q) x here u.0 (omega (arith, u.1, u.2)))

finds : (rs : List Record) (s : Stamp) (k e : ℕ) → k < length s → T (rising place rs) → Found rs s k e
    → e ≤ part (climb s rs) k
unfolding climb
finds [] s k e h o f =
    either (le_or_lt e (part s k)) (λ l. l)
    (λ l. absurd (either (f (part s k) l) (λ t. none_has k (suc (part s k)) t) (λ t. omega arith)))
finds (x ∷ xs) s k e h o f =
    finds xs (climbed s x) k e (rw (length-set s x.origin (raised (part s x.origin) x.number)) h)
    (tail-rising place x xs o)
    (λ q b. either (le_or_lt (suc q) (part (climbed s x) k)) (λ l. inr l) (λ l. above q b l (one_record s x k h)))
  where
    -- the next number is there, so x cannot have passed it
    passed : (q : ℕ) → q < e → x.origin ≡ k → x.number ≡ suc q → part s k < q → ⊥
    passed q b c d l = either (f (part s k) (omega arith)) (λ t. gone (has-at (x ∷ xs) k (suc (part s k)) t))
        (λ t. omega arith)
      where
        gone : ((r : Record) × (r ∈ x ∷ xs) × (r.origin ≡ k) × (r.number ≡ suc (part s k))) → ⊥
        gone w = either (Memᴰ.cases_cons w.1) (λ u. omega (arith, ap (λ (y : Record). y.number) u, w.3))
            (λ m. omega (arith, later x xs o w.0 m (w.2 ∙ sym c), w.3))

    -- x itself is no number above the climb: it would be the next, or have passed the next
    not_x : (q : ℕ) → q < e → part (climbed s x) k < suc q → x.origin ≡ k → x.number ≡ suc q
        → Raises s x k ⊎ Stays s x k → ⊥
    not_x q b l c d (inl v) = omega (arith, v.1, v.2)
    not_x q b l c d (inr v) =
        either (same_or_not (part s k) q) (λ y. v.0 c (d ∙ ap suc (sym y)))
        (λ y. passed q b c d (omega (arith, v.1, y)))

    above : (q : ℕ) → q < e → part (climbed s x) k < suc q → Raises s x k ⊎ Stays s x k
        → T (has xs k (suc q)) ⊎ (suc q ≤ part (climbed s x) k)
    above q b l u = either (f q b) (λ t. inl (among (has-at (x ∷ xs) k (suc q) t)))
        (λ t. absurd (either u (λ v. omega (arith, v.2)) (λ v. omega (arith, v.1))))
      where
        among : ((r : Record) × (r ∈ x ∷ xs) × (r.origin ≡ k) × (r.number ≡ suc q)) → T (has xs k (suc q))
        among w =
            either (Memᴰ.cases_cons w.1)
            (λ c. absurd (not_x q b l (ap (λ (y : Record). y.origin) (sym c) ∙ w.2)
            (ap (λ (y : Record). y.number) (sym c) ∙ w.3) u))
            (λ m. has-from xs k (suc q) w.0 m w.2 w.3)

-- the same facts as tests
test-found : (rs : List Record) (s : Stamp) (k e : ℕ)
    → T (all_below e (λ q. has rs k (suc q) || leb (suc q) (part s k)))
    → Found rs s k e
test-found rs s k e t q b =
    either (or_cases (has rs k (suc q)) (leb (suc q) (part s k))
    (all_below-at e (λ i. has rs k (suc i) || leb (suc i) (part s k)) t q b)) (λ u. inl u)
    (λ u. inr (leb→le (suc q) (part s k) u))

found_test : (rs : List Record) (s : Stamp) (k e : ℕ) → Found rs s k e
    → T (all_below e (λ q. has rs k (suc q) || leb (suc q) (part s k)))
found_test rs s k e f =
    all_below-from e (λ q. has rs k (suc q) || leb (suc q) (part s k))
    (λ q b. either (f q b) (λ u. or_l (has rs k (suc q)) (leb (suc q) (part s k)) u)
    (λ u. or_r (has rs k (suc q)) (leb (suc q) (part s k)) (le→leb (suc q) (part s k) u)))

pub climb-part : (rs : List Record) (s : Stamp) → T (rising place rs) → (k e : ℕ) → k < length s
    → all_below e (λ q. has rs k (suc q) || leb (suc q) (part s k)) ≡ leb e (part (climb s rs) k)
climb-part rs s o k e h =
    same_test (all_below e (λ q. has rs k (suc q) || leb (suc q) (part s k))) (leb e (part (climb s rs) k))
    (λ t. le→leb e (part (climb s rs) k) (finds rs s k e h o (test-found rs s k e t)))
    (λ t. found_test rs s k e (found rs s k e h (leb→le e (part (climb s rs) k) t)))

pub climb-holds : (n : ℕ) (start end : Stamp) (rs : List Record) → T (rising place rs) → n ≤ length start
    → holds_all n start end rs ≡ all_below n (λ k. leb (part end k) (part (climb start rs) k))
unfolding holds_all
climb-holds n start end rs o h = below-same n _ _ (λ k b. climb-part rs start o k (part end k) (omega arith))

pub all_held-climb : (n : ℕ) (s : Stamp) (rows : List Stamp) (log : List Record) → s ∈ rows
    → all_held n s rows log ≡ holds_all n (lowest_from s rows) s log
unfolding all_held holds_all
all_held-climb n s rows log m =
    below-same n _ _ (λ k b. below-same (part s k) _ _
    (λ q l. ap (λ (c : Bool). has log k (suc q) || c) (everywhere_lowest s rows m k (suc q))))

pub gapless-climb : (n : ℕ) (s : Stamp) (m : Message) → gapless n s m ≡ holds_all n s m.stamp m.records
unfolding gapless holds_all
gapless-climb n s m = below-same n _ _
    (λ k b. below-same (part m.stamp k) _ _ (λ q l. or_comm (ltb q (part s k)) (has m.records k (suc q))))
