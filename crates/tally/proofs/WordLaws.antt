-- Laws of the word: word and fields give each other back, the numeric order of words is the order of the five fields,
-- and two taps are the same exactly when the words are. Assumes nothing.
use Rattle.std.specs.Prelude.{ℕ, ◌/◌, ◌%◌, ◌<◌, ◌≡◌, T, leb, ltb, eqb, get_or, drop}
use Rattle.std.proofs.Common.{arith, sym, ap, ap₂, subst, ◌∙◌, leb→le, ltb→lt, lt→ltb, eqb→eq}
use Rattle.lists.specs.Order.{key_before}
use Rattle.lists.specs.TestLaws.{either, tell, and_r, given, same_test}
use Rattle.lists.proofs.ElementLaws.{eq→eqb}
use Rattle.lists.proofs.Sorted.{before_cons, before-total, same_key→≡, same_key-refl}
use Rattle.limits.specs.Limits.{front_ends, serials, prompt_count, showings, accept, decline}
use Rattle.tally.specs.declared.Tap.{Tap}
use Rattle.tally.specs.Tap.{fields, same_tap, tap_rules, tap_fits, FitsBits, word_of, tap_of}

-- a tap that keeps the field rules fits the word
pub fits_bits : (t : Tap) → T (tap_fits t) → FitsBits t
unfolding tap_fits front_ends serials prompt_count showings decline
fits_bits t h =
    given (tap_rules t) h
    (λ front serial prompt showing answer.
    record {
      front = ltb→lt t.front 256 front;
      serial = ltb→lt t.serial 4294967296 serial;
      prompt = ltb→lt t.prompt 64 prompt;
      showing = ltb→lt t.showing 65536 (and_r (leb 1 t.showing) (ltb t.showing 65536) showing);
      answer = omega (arith, leb→le t.answer 2 (and_r (leb accept t.answer) (leb t.answer 2) answer));
    })

-- word and fields give each other back
pub word_tap : (w : ℕ) → word_of (tap_of w) ≡ w
word_tap w = omega arith

pub tap-word : (t : Tap) → FitsBits t → tap_of (word_of t) ≡ t
tap-word t h =
    let a : word_of t / 4 / 65536 / 64 / 4294967296 ≡ t.front = omega arith in
    let b : word_of t / 4 / 65536 / 64 % 4294967296 ≡ t.serial = omega arith in
    let p : word_of t / 4 / 65536 % 64 ≡ t.prompt = omega arith in
    let d : word_of t / 4 % 65536 ≡ t.showing = omega arith in
    let e : word_of t % 4 ≡ t.answer = omega arith in
    λ i. record { front = a i; serial = b i; prompt = p i; showing = d i; answer = e i }

-- the fields below the front end fit their bits: all that the order needs, and so of any number
record LowFits (t : Tap) : Type 0 where
  serial : t.serial < 4294967296
  prompt : t.prompt < 64
  showing : t.showing < 65536
  answer : t.answer < 4

low_word : (w : ℕ) → LowFits (tap_of w)
low_word w = record { serial = omega arith; prompt = omega arith; showing = omega arith; answer = omega arith }

-- the order of words is the order of the five fields
before-word : (t u : Tap) → LowFits t → LowFits u → T (key_before (fields t) (fields u)) → word_of t < word_of u
before-word t u h k b =
    either (before_cons t.front u.front (drop 1 (fields t)) (drop 1 (fields u)) b) (λ l. omega arith)
    (λ e. either (before_cons t.serial u.serial (drop 2 (fields t)) (drop 2 (fields u)) e.1)
    (λ l. omega (arith, e.0))
    (λ f. either (before_cons t.prompt u.prompt (drop 3 (fields t)) (drop 3 (fields u)) f.1)
    (λ l. omega (arith, e.0, f.0))
    (λ g. either (before_cons t.showing u.showing (drop 4 (fields t)) (drop 4 (fields u)) g.1)
    (λ l. omega (arith, e.0, f.0, g.0))
    (λ i. either (before_cons t.answer u.answer (drop 5 (fields t)) (drop 5 (fields u)) i.1)
    (λ l. omega (arith, e.0, f.0, g.0, i.0)) (λ j. absurd j.1)))))

-- the five fields settle a tap
pub fields-same : (t u : Tap) → fields t ≡ fields u → t ≡ u
fields-same t u e =
    λ i. record {
      front = get_or (e i) 0 0;
      serial = get_or (e i) 1 0;
      prompt = get_or (e i) 2 0;
      showing = get_or (e i) 3 0;
      answer = get_or (e i) 4 0;
    }

word-before : (t u : Tap) → LowFits t → LowFits u → word_of t < word_of u → T (key_before (fields t) (fields u))
word-before t u h k l =
    either (tell (key_before (fields t) (fields u))) (λ b. b)
    (λ n. either (tell (key_before (fields u) (fields t))) (λ b. absurd (omega (arith, before-word u t k h b)))
    (λ m. absurd (omega (
      arith,
      ap (λ (x : Tap). word_of x) (fields-same t u (before-total (fields t) (fields u) n m)),
    ))))

order : (t u : Tap) → LowFits t → LowFits u → key_before (fields t) (fields u) ≡ ltb (word_of t) (word_of u)
order t u h k =
    same_test (key_before (fields t) (fields u)) (ltb (word_of t) (word_of u))
    (λ b. lt→ltb (word_of t) (word_of u) (before-word t u h k b))
    (λ l. word-before t u h k (ltb→lt (word_of t) (word_of u) l))

pub tap-order : (v w : ℕ) → key_before (fields (tap_of v)) (fields (tap_of w)) ≡ ltb v w
tap-order v w = order (tap_of v) (tap_of w) (low_word v) (low_word w) ∙ ap₂ ltb (word_tap v) (word_tap w)

-- two taps are the same exactly when the words are
pub same_tap_lem : (t u : Tap) → T (same_tap t u) → t ≡ u
unfolding same_tap
same_tap_lem t u s = fields-same t u (same_key→≡ (fields t) (fields u) s)

pub tap-same : (t : Tap) → T (same_tap t t)
unfolding same_tap
tap-same t = same_key-refl (fields t)

pub tap-equal : (v w : ℕ) → same_tap (tap_of v) (tap_of w) ≡ eqb v w
tap-equal v w =
    same_test (same_tap (tap_of v) (tap_of w)) (eqb v w)
    (λ s. eq→eqb v w (sym (word_tap v) ∙ ap word_of (same_tap_lem (tap_of v) (tap_of w) s) ∙ word_tap w))
    (λ e. subst (λ (x : ℕ). T (same_tap (tap_of v) (tap_of x))) (eqb→eq v w e) (tap-same (tap_of v)))
