-- Laws of bodies: body and word give each other back, and a word says at most one tap, which fits. Assumes nothing.
use Rattle.std.specs.Prelude.{ℕ, ◌≤◌, ◌≡◌, refl, [], ◌∷◌, length}
use Rattle.std.proofs.Common.{arith, sym}
use Rattle.std.proofs.Math.Path.{ap, subst}
use mathlib.Core.List.Memᴰ
use Rattle.std.proofs.Math.Dec.{T}
use Rattle.lists.specs.TestLaws.{◌∈◌, either, none_in}
use Rattle.tally.specs.Body.{Body, says, said_fits, body_word, body_of, body_fits, taps_said, taps_in}
use Rattle.tally.specs.Tap.{tap_fits, word_of, tap_of}
use Rattle.tally.proofs.WordLaws.{fits_bits, tap-word, word_tap}
use Rattle.tally.specs.declared.Tap.{Tap}

-- word and body give each other back: the body of a tap's word says that tap
pub body-word : (x : Body) → T (said_fits x) → body_of (body_word x) ≡ x
unfolding body_of body_word
body-word (says t) h = ap says (tap-word t (fits_bits t h))

pub word-body : (w : ℕ) → T (body_fits w) → body_word (body_of w) ≡ w
unfolding body_of body_word
word-body w h = word_tap w

-- the word of a fitting body fits, and says just that body's taps
module _ (x : Body) (h : T (said_fits x)) where
  pub word_fits : T (body_fits (body_word x))
  unfolding body_fits
  word_fits = subst (λ (y : Body). T (said_fits y)) (sym (body-word x h)) h

  pub word-taps : taps_in (body_word x) ≡ taps_said x
  unfolding taps_in
  word-taps = ap taps_said (body-word x h)

-- what a fitting word says fits
taps_fit : (x : Body) → T (said_fits x) → (t : Tap) → t ∈ taps_said x → T (tap_fits t)
taps_fit (says u) h t m =
    either (Memᴰ.cases_cons m) (λ e. subst (λ (z : Tap). T (tap_fits z)) (sym e) h) (λ n. none_in n)

pub taps-body : (w : ℕ) → T (body_fits w) → (t : Tap) → t ∈ taps_in w → T (tap_fits t)
unfolding body_fits taps_in
taps-body w h t m = taps_fit (body_of w) h t m

-- a body says at most one tap
few-said : (x : Body) → length (taps_said x) ≤ 1
few-said (says t) = omega arith

pub taps-one : (w : ℕ) → length (taps_in w) ≤ 1
unfolding taps_in
taps-one w = few-said (body_of w)

-- For the code, which reads a word's five fields: today every word says the tap that it holds. Another kind of body
-- makes these laws of the words that say a tap.
pub says-word : (t : Tap) → body_word (says t) ≡ word_of t
unfolding body_word
says-word t = refl

pub says_tap : (w : ℕ) → body_of w ≡ says (tap_of w)
unfolding body_of
says_tap w = refl

pub taps_tap : (w : ℕ) → taps_in w ≡ tap_of w ∷ []
unfolding taps_in
taps_tap w = ap taps_said (says_tap w)

pub fits_tap : (w : ℕ) → body_fits w ≡ tap_fits (tap_of w)
unfolding body_fits
fits_tap w = ap said_fits (says_tap w)

-- a body keeps its rule exactly when its tap keeps the field rules
pub body_tap : (w : ℕ) → T (body_fits w) → T (tap_fits (tap_of w))
body_tap w h = subst T (fits_tap w) h

pub tap-body : (t : Tap) → T (tap_fits t) → T (body_fits (word_of t))
tap-body t h = subst (λ (w : ℕ). T (body_fits w)) (says-word t) (word_fits (says t) h)
