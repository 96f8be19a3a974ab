-- One turn of the loop over the taps' words, and the tables' test, on the lists. Assumes nothing.
use Prim.Native.Nat.{ℕ, ◌+◌, ◌≤◌, ◌<◌}
use native.Mathlib.Numerals.{add-one}
use native.Mathlib.Omega.{arith}
use mathlib.Core.Path.{◌≡◌, refl, sym, ap, subst, ◌∙◌}
use mathlib.Core.Bool.{Bool, ◌&&◌}
use mathlib.Core.List.{List, [], ◌∷◌, map}
use lib.Dec.{eqb}
use lib.ListN.{length, take, get_or, length-map}
use lib.Seq.{length-take-le, take-suc}
use Rattle.std.proofs.lemmas.List.{map-append}
use Rattle.std.specs.Cmp.Lexicographic.{pointwise}
use Rattle.lists.specs.Order.{same_key}
use Rattle.limits.specs.Limits.{prompt_count, count_limit}
use Rattle.tally.specs.Standing.{CountsFit, afresh, blank}
use Rattle.tally.proofs.StandingLaws.{afresh-at, standing-few}
use Rattle.tally.specs.Tap.{tap_of}
use Rattle.tally.specs.declared.Standing.{Standing}
use Rattle.prompts.specs.Region.{noted_at}
use Rattle.prompts.specs.RegionLaws.{afresh-next, prompt-word}

-- the standings of the taps before the i-th
abbrev pub first_afresh : List ℕ → ℕ → List Standing
first_afresh taps i = afresh (map tap_of (take i taps))

module _ (taps : List ℕ) (i : ℕ) (h : i < length taps) where
  pub noted_more : first_afresh taps (i + 1) ≡ noted_at (tap_of (get_or taps i 0)) (first_afresh taps i)
  noted_more =
      let w = get_or taps i 0 in
      ap (λ (l : List ℕ). afresh (map tap_of l)) (rw add-one (take-suc taps i 0 h))
      ∙ ap afresh (map-append tap_of (take i taps) (w ∷ []))
      ∙ afresh-next (tap_of w) (map tap_of (take i taps)) (prompt-word w)

  pub noted-fits : (p : ℕ) → p < prompt_count → length taps < count_limit
      → CountsFit (get_or (first_afresh taps i) p blank)
  noted-fits p k few =
      let ts = map tap_of (take i taps) in
      let l : length ts ≤ length taps = simp length-map (omega (arith, length-take-le i taps (omega arith))) in
      subst CountsFit (sym (afresh-at ts p k))
      (record { accepts = omega (arith, standing-few ts p); declines = omega (arith, standing-few ts p) })

-- std's equality of two lists is that of two keys
pub pointwise-key : (a b : List ℕ) → pointwise eqb a b ≡ same_key a b
pointwise-key [] [] = refl
pointwise-key [] (y ∷ b) = refl
pointwise-key (x ∷ a) [] = refl
pointwise-key (x ∷ a) (y ∷ b) = ap (λ (c : Bool). eqb x y && c) (pointwise-key a b)
