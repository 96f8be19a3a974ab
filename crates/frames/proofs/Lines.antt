-- What each test of framing settles. Assumes nothing.
use Prim.Native.Nat.{ℕ, zero, suc, ◌+◌}
use native.Mathlib.Omega.{arith}
use mathlib.Core.Path.{◌≡◌, refl}
use mathlib.Core.Bool.{Bool, true, false, cond, ◌&&◌, and-false}
use mathlib.Core.List.{List, [], ◌∷◌}
use borrow.Author.Tests.{eq-eqb, ne_eqb}
use Rattle.std.specs.List.{list_all, range_with_len}
use Rattle.std.proofs.Common.{zero-add, add-zero, sym}
use Rattle.lists.specs.Tests.{all_below}
use Rattle.limits.specs.LimitLaws.{log-counts}
use Rattle.wire.specs.Head.{count-place}
use Rattle.wire.proofs.Laws.{body-few}
use Rattle.std.specs.Prelude.{Some, None, slice_get, Ok, Err}
use Rattle.wire.specs.declared.Refusal.{Refusal}
use Rattle.wire.specs.Kinds.{body_by}
use Rattle.wire.specs.Head.{count_in}
use Rattle.frames.specs.Frame.{expected, gossip_frame, kind_frame, frame_of}
use Rattle.frames.specs.declared.Frame.TheVariants.{More, Whole, Stop}

-- what is read, by its first byte
pub begun : (k : ℕ) (read : List ℕ) (opened : Bool) → Some k ≡ slice_get read 0
    → cond (expected opened k) (kind_frame k read) Stop ≡ frame_of read opened
unfolding frame_of
begun k [] opened e = let z : ◌≡◌ {A = ℕ} 0 1 = cc in absurd (omega arith)
begun k (x ∷ rest) opened e = let q : k ≡ x = cc in rw q refl

pub nothing : (read : List ℕ) (opened : Bool) → None ≡ slice_get read 0 → More 1 ≡ frame_of read opened
unfolding frame_of
nothing [] opened e = refl
nothing (k ∷ rest) opened e = let z : ◌≡◌ {A = ℕ} 0 1 = cc in absurd (omega arith)

module _ (k : ℕ) (read : List ℕ) (opened : Bool) (first : Some k ≡ slice_get read 0) where
  pub unexpected : expected opened k ≡ false → Stop ≡ frame_of read opened
  unexpected e = rw (← begun k read opened first, e)

  module _ (e : expected opened k ≡ true) where
    pub gossips : k ≡ 1 → gossip_frame read ≡ frame_of read opened
    gossips q = rw (← begun k read opened first, e, eq-eqb k 1 q)

    pub body_long : (k ≡ 1 → ⊥) → (n : ℕ) → Ok n ≡ body_by k → Whole (1 + n) ≡ frame_of read opened
    body_long q n b = rw (← begun k read opened first, e, ne_eqb k 1 q, ← b) refl

    pub bodiless : (k ≡ 1 → ⊥) → (r : Refusal) → Err r ≡ body_by k → Stop ≡ frame_of read opened
    bodiless q r b = rw (← begun k read opened first, e, ne_eqb k 1 q, ← b) refl

-- a test at every number below n, as a chain over a range
exchange : (a b c : Bool) → (a && (b && c)) ≡ (b && (a && c))
exchange true b c = refl
exchange false b c = sym (and-false b)

last-range : (p : ℕ → Bool) (a n : ℕ)
    → list_all p (range_with_len a (suc n)) ≡ (p (a + n) && list_all p (range_with_len a n))
last-range p a zero = rw (add-zero a) refl
last-range p a (suc n) =
    let e : a + 1 + n ≡ a + suc n = omega arith in
    rw (last-range p (a + 1) n, e) (exchange (p a) (p (a + suc n)) (list_all p (range_with_len (a + 1) n)))

pub below_range : (p : ℕ → Bool) (n : ℕ) → all_below n p ≡ list_all p (range_with_len 0 n)
below_range p zero = refl
below_range p (suc n) = rw (last-range p 0 n, zero-add, below_range p n) refl

-- what a gossip's head goes by, and what the first byte tells
pub ruleset counted_head = (log-counts, count-place)

pub ruleset first_byte = (nothing, unexpected, gossips, body_long, bodiless, body-few)
