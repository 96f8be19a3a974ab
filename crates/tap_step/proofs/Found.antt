-- Laws: a tap is found in the log by its word. Assumes nothing.
use Prim.Native.Nat.{ℕ, suc, ◌+◌, ◌≤◌, ◌<◌}
use native.Mathlib.Omega.{arith}
use mathlib.Core.Path.{◌≡◌, refl, sym, ap, ◌∙◌}
use mathlib.Core.Bool.{Bool, true, false, not, ◌||◌, or-false, cond}
use mathlib.Core.List.{List, [], ◌∷◌}
use lib.Dec.{eqb, eqb→eq}
use lib.ListN.{length, get_or}
use Rattle.std.specs.Prelude.{None, Some, position}
use Rattle.std.specs.List.{position_or_len}
use Rattle.std.proofs.lemmas.Grind.{common_steps}
use Rattle.std.proofs.lemmas.List.Folds.{list_any_at}
use Rattle.std.proofs.lemmas.List.Quantifiers.{position-Some}
use Rattle.std.proofs.lemmas.List.Recursion.{found_at}
use Rattle.lists.specs.TestLaws.{same_test}
use Rattle.lists.proofs.ElementLaws.{eq→eqb}
use Rattle.lists.specs.Tests.{exists}
use Rattle.tally.proofs.BodyLaws.{taps_tap}
use Rattle.tally.specs.Standing.{among}
use Rattle.tally.specs.Tap.{same_tap, tap_of}
use Rattle.tally.proofs.WordLaws.{tap-equal}
use Rattle.tally.specs.declared.Tap.{Tap}
use Rattle.ledger.specs.Record.{Record, stamp_of}
use Rattle.meaning.specs.Book.{holds}
use Rattle.meaning.specs.Step.{first_stamp}

-- a position past the end: no element passes
past : (p : Record → Bool) (rs : List Record) → position p rs ≡ None → length rs ≤ position_or_len p rs
past p rs e = grind (arith, common_steps)

none_passes : (p : Record → Bool) (rs : List Record) → length rs ≤ position_or_len p rs → exists p rs ≡ false
none_passes p [] h = refl
none_passes p (r ∷ rs) h = go (p r) h (none_passes p rs)
  where
    go : (c : Bool) → suc (length rs) ≤ cond (not c) (1 + position_or_len p rs) 0
        → (length rs ≤ position_or_len p rs → exists p rs ≡ false) → (c || exists p rs) ≡ false
    go true l on = absurd (omega arith)
    go false l on = on (omega arith)

module _ (w : ℕ) where
  holds-body : (r : Record) → holds (tap_of w) r ≡ eqb r.body w
  unfolding holds among
  holds-body r =
      ap (λ (ts : List Tap). exists (same_tap (tap_of w)) ts) (taps_tap r.body) ∙ or-false _ ∙ tap-equal w r.body
      ∙ same_test (eqb w r.body) (eqb r.body w) (λ t. eq→eqb r.body w (sym (eqb→eq w r.body t)))
      (λ t. eq→eqb w r.body (sym (eqb→eq r.body w t)))

  pub tap-gone : (rs : List Record) → position (λ r. eqb r.body w) rs ≡ None → exists (holds (tap_of w)) rs ≡ false
  tap-gone rs e =
      (λ i. exists (λ r. holds-body r i) rs)
      ∙ none_passes (λ r. eqb r.body w) rs (past (λ r. eqb r.body w) rs e)

  module _ (rs : List Record) (i : ℕ) (d : Record) (e : position (λ r. eqb r.body w) rs ≡ Some i) where
    here : (i < length rs) × (eqb (get_or rs i d).body w ≡ true)
        × ((k : ℕ) → k < i → eqb (get_or rs k d).body w ≡ false)
    here = position-Some (λ r. eqb r.body w) rs i d e

    pub tap-within : i < length rs
    tap-within = here.0

    pub tap-found : exists (holds (tap_of w)) rs ≡ true
    tap-found = list_any_at (holds (tap_of w)) rs i d here.0 (holds-body (get_or rs i d) ∙ here.1)

    pub first-stamp : first_stamp (tap_of w) rs ≡ stamp_of (get_or rs i d)
    first-stamp =
        found_at (first_stamp (tap_of w)) (holds (tap_of w)) stamp_of [] refl (λ _ _. refl) rs i d here.0
        (λ k l. holds-body (get_or rs k d) ∙ here.2 k l) (holds-body (get_or rs i d) ∙ here.1)
