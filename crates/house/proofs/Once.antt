-- No screen takes the same tap twice: it holds a tap in its log or counted from the moment it takes it. Assumes
-- nothing.
use Prim.Native.Nat.{ℕ, ◌<◌, ◌≤◌}
use native.Mathlib.Omega.{arith}
use mathlib.Core.Path.{◌≡◌, ap, ◌∙◌, subst, sym}
use mathlib.Core.Logic.{◌⊎◌, inl, inr}
use mathlib.Core.List.Memᴰ
use mathlib.Core.List.{List}
use lib.Dec.{T}
use Rattle.lists.specs.TestLaws.{◌∈◌, exists-from, either, clash, none_in}
use Rattle.lists.specs.Tests.{exists}
use Rattle.limits.specs.Limits.{fewest, most}
use Rattle.stamp.specs.Stamp.{part}
use Rattle.tally.specs.Body.{taps_in}
use Rattle.tally.specs.Standing.{among}
use Rattle.tally.proofs.TapLaws.{mem-among}
use Rattle.tally.specs.declared.Tap.{Tap}
use Rattle.ledger.specs.Record.{Record}
use Rattle.ledger.proofs.RecordLaws.{go-applied}
use Rattle.meaning.specs.Book.{Book, holds, ready}
use Rattle.meaning.specs.Step.{new_record}
use Rattle.meaning.specs.Done.{Unheld}
use Rattle.meaning.proofs.StepLaws.{new-origin, new-taps}
use Rattle.house.specs.House.{House, after_send, Run, open_house, opened, onward}
use Rattle.house.proofs.Invariant.{Inv, known_of, ScreenOk}
use Rattle.house.proofs.Runs.{course, Course, stays, sent-one, heard, took, run_inv}

abbrev pub Once : List Record → Type 0
Once hs = (r x : Record) → r ∈ hs → x ∈ hs → r.origin ≡ x.origin → (t : Tap) → t ∈ taps_in r.body
    → t ∈ taps_in x.body → r ≡ x

-- a tap that a screen took is in its log or counted
logged : (b : Book) (x : Record) (t : Tap) → x ∈ b.log → t ∈ taps_in x.body → T (exists (holds t) b.log)
unfolding holds
logged b x t m n = exists-from (λ r. among (taps_in r.body) t) b.log m (mem-among t (taps_in x.body) n)

taken-held :
    (n : ℕ) (h : House) → Inv n h → (i : ℕ) → i < n → (x : Record) → x ∈ h.history → x.origin ≡ i → (t : Tap)
    → t ∈ taps_in x.body
    → T (exists (holds t) (h.book i).log) ⊎ T (among (h.book i).counted t)
taken-held n h v i u x m e t w =
    either (ok.kept x m (omega (arith, v.taken.owned x m, ap (λ (k : ℕ). part (known_of h k) x.origin) e)))
    (λ y. inl (logged b x t y w))
    (λ y. inr (mem-among t b.counted (ok.taken-counted x m (go-applied (ready b) b.table x y) t w)))
  where
    b : Book
    b = h.book i

    ok : ScreenOk n (known_of h) h.sent h.history i b
    ok = v.screens i u

course_once : (n : ℕ) {h h' : House} → Inv n h → Once h.history → Course n h h' → Once h'.history
unfolding after_send
course_once n v o stays = o
course_once n v o (sent-one i u) = o
course_once n v o (heard i u m y d) = o
course_once n {h} v o (took i u said l d) =
    λ r x m w e z p q. go r x (Memᴰ.cases_cons m) (Memᴰ.cases_cons w) e z p q
  where
    b : Book
    b = h.book i

    new : Record
    new = new_record b said l

    -- an older record of this screen does not have the tap
    never :
        (r x : Record) → r ≡ new → x ∈ h.history → x.origin ≡ r.origin → (z : Tap) → z ∈ taps_in r.body
        → z ∈ taps_in x.body → ⊥
    never r x p m e z a c =
        let from-here = e ∙ ap (λ (y : Record). y.origin) p ∙ new-origin b said l ∙ (v.screens i u).mine in
        either (taken-held n h v i u x m from-here z c)
        (λ y. clash (exists (holds z) b.log) y free.not-logged)
        (λ y. clash (among b.counted z) y free.not-counted)
      where
        free : Unheld b z
        free =
            let says-z = ap (λ (y : Record). taps_in y.body) p ∙ new-taps b said l d.said_fits_lem in
            d.unheld z (subst (λ (ts : List Tap). z ∈ ts) says-z a)

    go : (r x : Record) → (r ≡ new) ⊎ (r ∈ h.history) → (x ≡ new) ⊎ (x ∈ h.history) → r.origin ≡ x.origin
        → (z : Tap) → z ∈ taps_in r.body → z ∈ taps_in x.body → r ≡ x
    go r x (inl p) (inl q) e z a c = p ∙ sym q
    go r x (inl p) (inr q) e z a c = absurd (never r x p q (sym e) z a c)
    go r x (inr p) (inl q) e z a c = absurd (never x r q p e z c a)
    go r x (inr p) (inr q) e z a c = o r x p q e z a c

pub run_once : (n : ℕ) → fewest ≤ n → n ≤ most → {h : House} → Run n h → Once h.history
unfolding open_house
run_once n lo hi opened = λ r x m. none_in m
run_once n lo hi (onward r s) = course_once n (run_inv n lo hi r) (run_once n lo hi r) (course n s)
