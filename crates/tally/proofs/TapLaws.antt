-- Laws of taps: being among some taps, and the field rules as facts. Assumes nothing.
use Rattle.std.specs.Prelude.{◌<◌, ◌≤◌, ◌≡◌, ◌⊎◌, List, T, ltb, leb}
use Rattle.std.proofs.Common.{arith, subst, sym, inl, inr, ltb→lt, leb→le}
use Rattle.std.proofs.Math.Dec.{nleb→lt}
use Rattle.lists.specs.TestLaws.{◌∈◌, exists-from, exists-at, given, and_l, and_r, either, tell}
use Rattle.limits.specs.Limits.{prompt_count, accept, decline, showings}
use Rattle.tally.specs.Standing.{among}
use Rattle.tally.specs.Tap.{same_tap, tap_fits, tap_rules}
use Rattle.tally.proofs.WordLaws.{same_tap_lem, tap-same}
use Rattle.tally.specs.declared.Tap.{Tap}

-- among some taps, by the test and by membership
pub mem-among : (t : Tap) (ts : List Tap) → t ∈ ts → T (among ts t)
unfolding among
mem-among t ts m = exists-from (same_tap t) ts m (tap-same t)

pub among_mem : (t : Tap) (ts : List Tap) → T (among ts t) → t ∈ ts
unfolding among
among_mem t ts h = go (exists-at (same_tap t) ts h)
  where
    go : ((u : Tap) × (u ∈ ts) × T (same_tap t u)) → t ∈ ts
    go w = subst (λ (u : Tap). u ∈ ts) (sym (same_tap_lem t w.0 w.2)) w.1

-- a fitting tap's prompt is one of the prompts, its showing one of the showings, and its answer is accept or decline
pub prompt_in_lem : (t : Tap) → T (tap_fits t) → t.prompt < prompt_count
unfolding tap_fits
prompt_in_lem t h = given (tap_rules t) h (λ front serial prompt showing answer. ltb→lt t.prompt prompt_count prompt)

pub showing_in : (t : Tap) → T (tap_fits t) → t.showing < showings
unfolding tap_fits
showing_in t h =
    given (tap_rules t) h
    (λ front serial prompt showing answer.
    ltb→lt t.showing showings (and_r (leb 1 t.showing) (ltb t.showing showings) showing))

pub answer_either : (t : Tap) → T (tap_fits t) → (t.answer ≡ accept) ⊎ (t.answer ≡ decline)
unfolding tap_fits accept decline
answer_either t h =
    given (tap_rules t) h
    (λ front serial prompt showing answer.
    let lo : 1 ≤ t.answer = leb→le 1 t.answer (and_l (leb 1 t.answer) (leb t.answer 2) answer) in
    let hi : t.answer ≤ 2 = leb→le t.answer 2 (and_r (leb 1 t.answer) (leb t.answer 2) answer) in
    either (tell (leb t.answer 1)) (λ e. inl (omega (arith, leb→le t.answer 1 e)))
    (λ e. inr (omega (arith, nleb→lt t.answer 1 e))))
