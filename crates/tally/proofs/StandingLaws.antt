-- Laws of standings: what one more tap does, how many taps they tell of, and what a verdict says. Assumes nothing.
use Rattle.std.specs.Prelude.{max, ℕ, ◌<◌, ◌+◌, ◌≤◌, ◌≡◌, refl, ◌≢◌, ◌⊎◌, ◌&&◌, Bool, false, true, not, cond, List, []}
use Rattle.std.specs.Prelude.{◌∷◌, T, ltb, length, get_or, set}
use Rattle.std.proofs.Common.{zero-add, arith, ◌∙◌, sym, subst, ap₂, inl, inr, ltb→lt, nltb→le, eqb→eq, length-set}
use Rattle.std.proofs.Common.{ext_get_or, get_or-set_same, get_or-set_other, ne_eqb, lt-ltb, le-ltb, eq-eqb}
use Rattle.std.proofs.Math.Path.{ap}
use mathlib.Core.List.Memᴰ
use Rattle.std.proofs.Math.Dec.{eqb, eqb_refl}
use Rattle.std.proofs.lemmas.List.{length-map}
use Rattle.lists.specs.TestLaws.{keep_le, keep-length, here, bit, is_true, is_false, tell, either, not-from, ◌∈◌, there}
use Rattle.lists.specs.TestLaws.{keep_all, keep_share, and_r, and_l, both, none_in, mem-keep, keep_mem}
use Rattle.lists.proofs.ElementLaws.{OneMore, at, later, more-count, same_or_not, eq→eqb, more-out, more_in, numbers-at}
use Rattle.lists.proofs.ElementLaws.{numbers-length, bit-apart, keep_some, some-kept}
use Rattle.lists.specs.Order.{same_key}
use Rattle.lists.proofs.Sorted.{put_all, Put, same_key→≡, same_key-refl}
use Rattle.lists.specs.Tests.{keep, numbers}
use Rattle.limits.specs.Limits.{accept, decline, prompt_count, showings}
use Rattle.tally.specs.Standing.{highest, how_many, one_if, standing, noted, standing_of, of_prompt, afresh, blank}
use Rattle.tally.specs.Standing.{count_all, counts, same_counts, contested, verdict_of, declined, unasked, accepted}
use Rattle.tally.specs.Tap.{fields, tap_fits}
use Rattle.tally.proofs.TapLaws.{showing_in}
use Rattle.tally.proofs.WordLaws.{fields-same}
use Rattle.tally.specs.declared.Standing.{Standing}
use Rattle.tally.specs.declared.Tap.{Tap}

more-highest : (t : Tap) {ts us : List Tap} → OneMore t ts us → highest us ≡ max t.showing (highest ts)
more-highest t at = refl
more-highest t (later {y} {ts} {us} r) = omega (arith, more-highest t r)

-- no tap is of a showing above the highest
none_above : (s a : ℕ) (ts : List Tap) → highest ts < s → how_many s a ts ≡ 0
unfolding how_many
none_above s a [] h = refl
none_above s a (t ∷ ts) h =
    omega (
      arith,
      keep-length (λ u. eqb u.showing s && eqb u.answer a) t ts,
      out (eqb t.showing s) (eqb t.answer a) (ne_eqb t.showing s (λ e. omega arith)),
      none_above s a ts (omega arith),
    )
  where
    out : (x y : Bool) → x ≡ false → bit (x && y) ≡ 0
    out x y e = ap (λ (c : Bool). bit (c && y)) e

more_many : (t : Tap) (s a : ℕ) {ts us : List Tap} → OneMore t ts us
    → how_many s a us ≡ how_many s a ts + bit (eqb t.showing s && eqb t.answer a)
unfolding how_many
more_many t s a r = more-count (λ u. eqb u.showing s && eqb u.answer a) t r

same-showing : (x y : Bool) → T x → bit (x && y) ≡ bit y
same-showing x y h = ap (λ (c : Bool). bit (c && y)) (is_true x h)

other-showing : (x y : Bool) → T (not x) → bit (x && y) ≡ 0
other-showing x y h = ap (λ (c : Bool). bit (c && y)) (is_false x h)

pub one_if-bit : (a : ℕ) (t : Tap) → one_if a t ≡ bit (eqb t.answer a)
unfolding one_if
one_if-bit a t = go (eqb t.answer a)
  where
    go : (c : Bool) → cond c 1 0 ≡ bit c
    go true = refl
    go false = refl

standing_path : (s s' a a' d d' : ℕ) → s ≡ s' → a ≡ a' → d ≡ d'
    → ◌≡◌ {A = Standing} (record { showing = s; accepts = a; declines = d })
    (record { showing = s'; accepts = a'; declines = d' })
standing_path s s' a a' d d' p q r = λ i. record { showing = p i; accepts = q i; declines = r i }

pub noted_higher : (t : Tap) (s : Standing) → s.showing < t.showing
    → noted t s ≡ record { showing = t.showing; accepts = one_if accept t; declines = one_if decline t }
unfolding noted
noted_higher t s h = rw (lt-ltb s.showing t.showing h)

pub noted-equal : (t : Tap) (s : Standing) → t.showing ≡ s.showing
    → noted t s ≡ record {
      showing =
          s.showing;
      accepts = s.accepts + one_if accept t;
      declines = s.declines + one_if decline t;
    }
unfolding noted
noted-equal t s e = rw (le-ltb s.showing t.showing (omega (arith, e)), eq-eqb t.showing s.showing e)

pub noted-lower : (t : Tap) (s : Standing) → t.showing ≤ s.showing → t.showing ≢ s.showing → noted t s ≡ s
unfolding noted
noted-lower t s h d = rw (le-ltb s.showing t.showing h, ne_eqb t.showing s.showing d)

-- taps of one prompt with one more of it
one-noted : (t : Tap) (old new : List Tap) → OneMore t old new → standing_of new ≡ noted t (standing_of old)
unfolding standing_of
one-noted t old new r = go (tell (ltb (highest old) t.showing))
  where
    top : highest new ≡ max t.showing (highest old)
    top = more-highest t r

    was : Standing
    was = record {
      showing = highest old;
      accepts = how_many (highest old) accept old;
      declines = how_many (highest old) decline old;
    }

    stands : (s : ℕ) → highest new ≡ s
        → ◌≡◌ {A = Standing} (record {
          showing = highest new;
          accepts = how_many (highest new) accept new;
          declines = how_many (highest new) decline new;
        })
        (record { showing = s; accepts = how_many s accept new; declines = how_many s decline new })
    stands s e = ap (λ (x : ℕ). record
        { showing = x; accepts = how_many x accept new; declines = how_many x decline new }) e

    go : T (ltb (highest old) t.showing) ⊎ T (not (ltb (highest old) t.showing))
        → ◌≡◌ {A = Standing} (record {
          showing = highest new;
          accepts = how_many (highest new) accept new;
          declines = how_many (highest new) decline new;
        }) (noted t was)
    go (inl h) =
        stands t.showing (omega (arith, top, ltb→lt (highest old) t.showing h))
        ∙ standing_path t.showing t.showing _ _ _ _ refl (first accept) (first decline)
        ∙ sym (noted_higher t was (ltb→lt (highest old) t.showing h))
      where
        first : (a : ℕ) → how_many t.showing a new ≡ one_if a t
        first a = omega (
          arith,
          more_many t t.showing a r,
          none_above t.showing a old (ltb→lt (highest old) t.showing h),
          same-showing (eqb t.showing t.showing) (eqb t.answer a) (eqb_refl t.showing),
          one_if-bit a t,
        )
    go (inr h) = either (same_or_not t.showing (highest old)) (λ e. equal e) (λ d. lower d)
      where
        high : t.showing ≤ highest old
        high = nltb→le (highest old) t.showing h

        equal : t.showing ≡ highest old
            → ◌≡◌ {A = Standing} (record {
              showing = highest new;
              accepts = how_many (highest new) accept new;
              declines = how_many (highest new) decline new;
            }) (noted t was)
        equal e =
            stands (highest old) (omega (arith, top, e))
            ∙ standing_path (highest old) (highest old) _ _ _ _ refl (added accept) (added decline)
            ∙ sym (noted-equal t was e)
          where
            added : (a : ℕ) → how_many (highest old) a new ≡ how_many (highest old) a old + one_if a t
            added a = omega (
              arith,
              more_many t (highest old) a r,
              same-showing (eqb t.showing (highest old)) (eqb t.answer a) (eq→eqb t.showing (highest old) e),
              one_if-bit a t,
            )

        lower : t.showing ≢ highest old
            → ◌≡◌ {A = Standing} (record {
              showing = highest new;
              accepts = how_many (highest new) accept new;
              declines = how_many (highest new) decline new;
            }) (noted t was)
        lower d =
            stands (highest old) (omega (arith, top, high))
            ∙ standing_path (highest old) (highest old) _ _ _ _ refl (kept accept) (kept decline)
            ∙ sym (noted-lower t was high d)
          where
            kept : (a : ℕ) → how_many (highest old) a new ≡ how_many (highest old) a old
            kept a = omega (
              arith,
              more_many t (highest old) a r,
              other-showing (eqb t.showing (highest old)) (eqb t.answer a)
                  (not-from (eqb t.showing (highest old)) (λ e. d (eqb→eq t.showing (highest old) e))),
            )

-- one more tap changes the standing of its own prompt and of no other
module _ (t : Tap) (ts us : List Tap) (r : OneMore t ts us) where
  standing-other : (p : ℕ) → t.prompt ≢ p → standing us p ≡ standing ts p
  unfolding standing of_prompt
  standing-other p d = ap standing_of
      (more-out (λ u. eqb u.prompt p) t (not-from (eqb t.prompt p) (λ e. d (eqb→eq t.prompt p e))) r)

  standing-own : standing us t.prompt ≡ noted t (standing ts t.prompt)
  unfolding standing of_prompt
  standing-own = one-noted t (keep (λ u. eqb u.prompt t.prompt) ts) (keep (λ u. eqb u.prompt t.prompt) us)
      (more_in (λ u. eqb u.prompt t.prompt) t (eqb_refl t.prompt) r)

-- a prompt's place among the standings
pub afresh-at : (ts : List Tap) (p : ℕ) → p < prompt_count → get_or (afresh ts) p blank ≡ standing ts p
unfolding afresh
afresh-at ts p h = numbers-at (standing ts) blank prompt_count 0 p h ∙ ap (standing ts) (zero-add p)

pub afresh-length : (ts : List Tap) → length (afresh ts) ≡ prompt_count
unfolding afresh
afresh-length ts = length-map (numbers 0 prompt_count) (standing ts) ∙ numbers-length 0 prompt_count

-- every standing, with one more tap
pub afresh-more : (t : Tap) (ts us : List Tap) → OneMore t ts us → t.prompt < prompt_count
    → afresh us ≡ set (afresh ts) t.prompt (noted t (get_or (afresh ts) t.prompt blank))
afresh-more t ts us r h =
    ext_get_or blank (afresh us) new (afresh-length us ∙ sym (length-set (afresh ts) t.prompt mine ∙ afresh-length ts))
    (λ p l. place p (omega (arith, afresh-length us)))
  where
    mine : Standing
    mine = noted t (get_or (afresh ts) t.prompt blank)

    new : List Standing
    new = set (afresh ts) t.prompt mine

    own : standing us t.prompt ≡ mine
    own = standing-own t ts us r ∙ ap (noted t) (sym (afresh-at ts t.prompt h))

    place : (p : ℕ) → p < prompt_count → get_or (afresh us) p blank ≡ get_or new p blank
    place p l =
        afresh-at us p l
        ∙ either (same_or_not p t.prompt)
        (λ e. ap (standing us) e ∙ own
        ∙ sym (ap (λ (x : ℕ). get_or new x blank) e
        ∙ get_or-set_same (afresh ts) t.prompt mine blank (omega (arith, afresh-length ts))))
        (λ d. standing-other t ts us r p (λ e. d (sym e)) ∙ sym (afresh-at ts p l)
        ∙ sym (get_or-set_other (afresh ts) t.prompt p mine blank d))

-- what counting does to the counted taps
pub count-put : (ts cs : List Tap) → Put fields ts cs (count_all ts cs)
unfolding count_all
count-put ts cs = put_all fields ts cs

pub count-has : (ts cs : List Tap) (t : Tap) → t ∈ ts → t ∈ count_all ts cs
count-has ts cs t m = go ((count-put ts cs).has t m)
  where
    go : ((z : Tap) × (z ∈ count_all ts cs) × (fields z ≡ fields t)) → t ∈ count_all ts cs
    go w = subst (λ (u : Tap). u ∈ count_all ts cs) (fields-same w.0 t w.2) w.1

-- the two counts of a prompt are no more than the taps
pub accept-decline : accept < decline
unfolding accept decline
accept-decline = omega arith

pub standing-few : (ts : List Tap) (p : ℕ) → (standing ts p).accepts + (standing ts p).declines ≤ length ts
unfolding standing standing_of how_many of_prompt
standing-few ts p =
    omega (
      arith,
      keep_all mine,
      keep_le (λ t. eqb t.prompt p) ts,
      keep_share (of accept) (of decline) (λ t. true) mine
          (λ t m. bit-apart (of accept t) (of decline t) (λ a c. one_answer t a c)),
    )
  where
    mine : List Tap
    mine = keep (λ t. eqb t.prompt p) ts

    of : ℕ → Tap → Bool
    of a t = eqb t.showing (highest mine) && eqb t.answer a

    one_answer : (t : Tap) → T (of accept t) → T (of decline t) → ⊥
    one_answer t a c =
        omega (
          arith,
          accept-decline,
          eqb→eq t.answer accept (and_r (eqb t.showing (highest mine)) (eqb t.answer accept) a),
          eqb→eq t.answer decline (and_r (eqb t.showing (highest mine)) (eqb t.answer decline) c),
        )

pub afresh-few : (ts : List Tap) (s : Standing) → s ∈ afresh ts → s.accepts + s.declines ≤ length ts
unfolding afresh
afresh-few ts s m = go (Memᴰ.of_map (standing ts) (numbers 0 prompt_count) m)
  where
    go : ((p : ℕ) × (p ∈ numbers 0 prompt_count) × (standing ts p ≡ s)) → s.accepts + s.declines ≤ length ts
    go w = subst (λ (x : Standing). x.accepts + x.declines ≤ length ts) w.2 (standing-few ts w.0)

-- two lists of standings that agree are one
counts-one : (x y : Standing) → counts x ≡ counts y → x ≡ y
counts-one x y e =
    let p : (k : ℕ) → get_or (counts x) k 0 ≡ get_or (counts y) k 0 = λ k. ap (λ (l : List ℕ). get_or l k 0) e in
    standing_path x.showing y.showing x.accepts y.accepts x.declines y.declines (p 0) (p 1) (p 2)

pub counts_same : (xs ys : List Standing) → T (same_counts xs ys) → xs ≡ ys
counts_same [] [] t = refl
counts_same [] (y ∷ ys) t = absurd t
counts_same (x ∷ xs) [] t = absurd t
counts_same (x ∷ xs) (y ∷ ys) t =
    ap₂ ◌∷◌ (counts-one x y (same_key→≡ (counts x) (counts y)
    (and_l (same_key (counts x) (counts y)) (same_counts xs ys) t)))
    (counts_same xs ys (and_r (same_key (counts x) (counts y)) (same_counts xs ys) t))

pub counts-refl : (xs : List Standing) → T (same_counts xs xs)
counts-refl [] = tt
counts-refl (x ∷ xs) = both (same_key (counts x) (counts x)) (same_counts xs xs) (same_key-refl (counts x))
    (counts-refl xs)

-- a tap of the prompt is of no higher showing, and one of the highest is counted by its answer
highest-over : (ts : List Tap) {t : Tap} → t ∈ ts → t.showing ≤ highest ts
highest-over [] m = none_in m
highest-over (u ∷ us) m =
    either (Memᴰ.cases_cons m) (λ e. omega (arith, ap (λ (x : Tap). x.showing) e))
    (λ n. omega (arith, highest-over us n))

of-prompt : (ts : List Tap) (p : ℕ) (t : Tap) → t ∈ ts → t.prompt ≡ p → t ∈ of_prompt p ts
unfolding of_prompt
of-prompt ts p t m e = mem-keep (λ u. eqb u.prompt p) ts m (eq→eqb t.prompt p e)

pub standing-showing : (ts : List Tap) (p : ℕ) → (standing ts p).showing ≡ highest (of_prompt p ts)
unfolding standing standing_of
standing-showing ts p = refl

-- the showing of fitting taps is one of the showings
highest_in : (ts : List Tap) → ((t : Tap) → t ∈ ts → T (tap_fits t)) → highest ts < showings
unfolding showings
highest_in [] f = omega arith
highest_in (t ∷ ts) f = omega (arith, showing_in t (f t here), highest_in ts (λ u m. f u (there m)))

pub standing_in_lem :
    (ts : List Tap) (p : ℕ) → ((t : Tap) → t ∈ ts → T (tap_fits t)) → (standing ts p).showing < showings
unfolding of_prompt
standing_in_lem ts p f =
    omega (arith, standing-showing ts p, highest_in mine (λ t m. f t (keep_mem (λ u. eqb u.prompt p) ts m).0))
  where
    mine : List Tap
    mine = keep (λ u. eqb u.prompt p) ts

pub standing-over : (ts : List Tap) (p : ℕ) (t : Tap) → t ∈ ts → t.prompt ≡ p → t.showing ≤ (standing ts p).showing
standing-over ts p t m e = omega (arith, highest-over (of_prompt p ts) (of-prompt ts p t m e), standing-showing ts p)

some_of : (s a : ℕ) (ts : List Tap) (t : Tap) → t ∈ ts → t.showing ≡ s → t.answer ≡ a → 0 < how_many s a ts
unfolding how_many
some_of s a ts t m e f =
    keep_some (λ u. eqb u.showing s && eqb u.answer a) ts m
    (both (eqb t.showing s) (eqb t.answer a) (eq→eqb t.showing s e) (eq→eqb t.answer a f))

pub accept-counted : (ts : List Tap) (p : ℕ) (t : Tap) → t ∈ ts → t.prompt ≡ p → t.showing ≡ (standing ts p).showing
    → t.answer ≡ accept → 0 < (standing ts p).accepts
unfolding standing standing_of
accept-counted ts p t m e f g = some_of (highest (of_prompt p ts)) accept (of_prompt p ts) t (of-prompt ts p t m e) f g

pub decline-counted : (ts : List Tap) (p : ℕ) (t : Tap) → t ∈ ts → t.prompt ≡ p → t.showing ≡ (standing ts p).showing
    → t.answer ≡ decline → 0 < (standing ts p).declines
unfolding standing standing_of
decline-counted ts p t m e f g = some_of (highest (of_prompt p ts)) decline (of_prompt p ts) t (of-prompt ts p t m e)
    f g

-- a count above zero comes from a tap of the highest showing
pub accept-there : (ts : List Tap) (p : ℕ) → 0 < (standing ts p).accepts
    → (t : Tap) × (t ∈ ts) × (t.prompt ≡ p) × (t.showing ≡ (standing ts p).showing) × (t.answer ≡ accept)
unfolding standing standing_of how_many of_prompt
accept-there ts p h = go (some-kept (λ u. eqb u.showing top && eqb u.answer accept) mine h)
  where
    mine : List Tap
    mine = keep (λ u. eqb u.prompt p) ts

    top : ℕ
    top = highest mine

    go : ((t : Tap) × (t ∈ mine) × T (eqb t.showing top && eqb t.answer accept))
        → (t : Tap) × (t ∈ ts) × (t.prompt ≡ p) × (t.showing ≡ top) × (t.answer ≡ accept)
    go w = (
      w.0,
      (keep_mem (λ u. eqb u.prompt p) ts w.1).0,
      eqb→eq w.0.prompt p (keep_mem (λ u. eqb u.prompt p) ts w.1).1,
      eqb→eq w.0.showing top (and_l (eqb w.0.showing top) (eqb w.0.answer accept) w.2),
      eqb→eq w.0.answer accept (and_r (eqb w.0.showing top) (eqb w.0.answer accept) w.2),
    )

-- a verdict as its number
pub verdict_is : (s : Standing)
    → verdict_of s
    ≡ cond (ltb 0 s.accepts) (cond (ltb 0 s.declines) 3 1) (cond (ltb 0 s.declines) 2 0)
unfolding verdict_of unasked accepted declined contested
verdict_is s = refl

-- accepts and declines mean Contested, declines alone Declined, neither Unasked; so Accepted means accepts only
pub both-contested : (s : Standing) → 0 < s.accepts → 0 < s.declines → verdict_of s ≡ contested
unfolding verdict_of
both-contested s a d = rw (lt-ltb 0 s.accepts a, lt-ltb 0 s.declines d)

only-declined : (s : Standing) → s.accepts ≤ 0 → 0 < s.declines → verdict_of s ≡ declined
unfolding verdict_of
only-declined s a d = rw (le-ltb 0 s.accepts a, lt-ltb 0 s.declines d)

neither-unasked : (s : Standing) → s.accepts ≤ 0 → s.declines ≤ 0 → verdict_of s ≡ unasked
unfolding verdict_of
neither-unasked s a d = rw (le-ltb 0 s.accepts a, le-ltb 0 s.declines d)

pub accepted-only : (s : Standing) → verdict_of s ≡ accepted → (0 < s.accepts) × (s.declines ≡ 0)
unfolding unasked accepted declined contested
accepted-only s e =
    either (tell (ltb 0 s.declines))
    (λ d. either (tell (ltb 0 s.accepts))
    (λ a. absurd (omega (arith, e, both-contested s (ltb→lt 0 s.accepts a) (ltb→lt 0 s.declines d))))
    (λ a. absurd (omega (arith, e, only-declined s (nltb→le 0 s.accepts a) (ltb→lt 0 s.declines d)))))
    (λ d. either (tell (ltb 0 s.accepts)) (λ a. (ltb→lt 0 s.accepts a, omega (arith, nltb→le 0 s.declines d)))
    (λ a. absurd (omega (arith, e, neither-unasked s (nltb→le 0 s.accepts a) (nltb→le 0 s.declines d)))))

pub contested-not : contested ≢ accepted
unfolding contested accepted
contested-not e = omega (arith, e)
