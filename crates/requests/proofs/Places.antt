-- Five values stored one after the other from a place on are the list with them in that place. Assumes nothing.
use Prim.Native.Nat.{ℕ, zero, suc, ◌+◌, ◌≤◌}
use mathlib.Core.Path.{◌≡◌, refl, ap}
use mathlib.Core.List.{List, [], ◌∷◌}
use native.Mathlib.Nat.{suc-add}
use native.Mathlib.Omega.{arith}
use lib.ListN.{length, set}
use Rattle.lists.specs.Part.{patch}

module _ (v w x y z : ℕ) where
  pub five :
      (a : ℕ) (l : List ℕ) → a + 5 ≤ length l
      → set (set (set (set (set l a v) (a + 1) w) (a + 2) x) (a + 3) y) (a + 4) z ≡ patch a 5 l (v ∷ w ∷ x ∷ y ∷ z ∷ [])
  unfolding patch
  five a [] h = absurd (omega arith)
  five (suc a) (p ∷ l) h =
      rw (suc-add a 1, suc-add a 2, suc-add a 3, suc-add a 4) (ap (λ (r : List ℕ). p ∷ r) (five a l (omega arith)))
  five zero (p ∷ []) h = absurd (omega arith)
  five zero (p ∷ q ∷ []) h = absurd (omega arith)
  five zero (p ∷ q ∷ r ∷ []) h = absurd (omega arith)
  five zero (p ∷ q ∷ r ∷ s ∷ []) h = absurd (omega arith)
  five zero (p ∷ q ∷ r ∷ s ∷ t ∷ l) h = refl
