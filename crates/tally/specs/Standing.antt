-- The counted taps, and what a prompt's taps come to: the highest showing, its accepts and declines, the verdict.
-- Assumes nothing.
use Rattle.std.specs.Prelude.{ℕ, max, ◌+◌, ◌<◌, Bool, ◌&&◌, true, false, cond, List, [], ◌∷◌, map, eqb, ltb, length}
use Rattle.std.specs.Prelude.{set, get_or}
use Rattle.lists.specs.Order.{insert, insert_all, same_key}
use Rattle.lists.specs.Tests.{exists, keep, numbers}
use Rattle.limits.specs.Limits.{accept, decline, prompt_count, count_limit}
use Rattle.tally.specs.Tap.{same_tap, fields}
use Rattle.tally.specs.declared.Standing.{Standing}
use Rattle.tally.specs.declared.Tap.{Tap}

-- the tap is among some taps
unfoldable pub among : List Tap → Tap → Bool
among ts t = exists (same_tap t) ts

-- the counted taps, in order of the five fields, when more taps count: the distinct ones, each once
unfoldable pub count_all : List Tap → List Tap → List Tap
count_all ts counted = insert_all fields ts counted

unfoldable pub distinct : List Tap → List Tap
distinct ts = count_all ts []

-- a prompt's taps, the highest showing of some taps (0 if none), and how many of showing s have answer a
unfoldable pub of_prompt : ℕ → List Tap → List Tap
of_prompt p ts = keep (λ t. eqb t.prompt p) ts

abbrev pub highest : List Tap → ℕ
highest [] = 0
highest (t ∷ ts) = max t.showing (highest ts)

unfoldable pub how_many : ℕ → ℕ → List Tap → ℕ
how_many s a ts = length (keep (λ t. eqb t.showing s && eqb t.answer a) ts)

unfoldable pub standing_of : List Tap → Standing
standing_of ts = record {
  showing = highest ts;
  accepts = how_many (highest ts) accept ts;
  declines = how_many (highest ts) decline ts;
}

unfoldable pub standing : List Tap → ℕ → Standing
standing ts p = standing_of (of_prompt p ts)

-- every prompt's standing, worked out afresh
unfoldable pub afresh : List Tap → List Standing
afresh ts = map (standing ts) (numbers 0 prompt_count)

-- the standing of a prompt without taps
abbrev pub blank : Standing
blank = record { showing = 0; accepts = 0; declines = 0 }

-- two lists of standings agree
abbrev pub counts : Standing → List ℕ
counts s = s.showing ∷ s.accepts ∷ s.declines ∷ []

abbrev pub same_counts : List Standing → List Standing → Bool
same_counts [] [] = true
same_counts [] (y ∷ ys) = false
same_counts (x ∷ xs) [] = false
same_counts (x ∷ xs) (y ∷ ys) = same_key (counts x) (counts y) && same_counts xs ys

-- the verdict on a prompt: Unasked (0), Accepted (1: accepts only), Declined (2: declines only) or Contested (3: both)
unfoldable pub unasked : ℕ
unasked = 0

unfoldable pub accepted : ℕ
accepted = 1

unfoldable pub declined : ℕ
declined = 2

unfoldable pub contested : ℕ
contested = 3

unfoldable pub verdict_of : Standing → ℕ
verdict_of s =
    cond (ltb 0 s.accepts) (cond (ltb 0 s.declines) contested accepted)
    (cond (ltb 0 s.declines) declined unasked)

-- The same kept up one tap at a time: a higher showing begins anew, the same one counts one more, a lower one changes
-- nothing.
unfoldable pub one_if : ℕ → Tap → ℕ
one_if a t = cond (eqb t.answer a) 1 0

unfoldable pub noted : Tap → Standing → Standing
noted t s =
    cond (ltb s.showing t.showing)
    (record { showing = t.showing; accepts = one_if accept t; declines = one_if decline t })
    (cond (eqb t.showing s.showing)
    (record {
      showing = s.showing;
      accepts = s.accepts + one_if accept t;
      declines = s.declines
          + one_if decline t;
    }) s)

-- one more tap can be noted in 64 bits
pub record CountsFit (s : Standing) : Type 0 where
  pub accepts : s.accepts < count_limit
  pub declines : s.declines < count_limit

-- a tap that is not among the counted ones is put in its place and noted at its prompt
unfoldable pub count : Tap → List Tap × List Standing → List Tap × List Standing
count t st =
    cond (among st.0 t) st
    (insert fields t st.0, set st.1 t.prompt (noted t (get_or st.1 t.prompt blank)))

abbrev pub counting : List Tap → List Tap × List Standing → List Tap × List Standing
counting [] st = st
counting (t ∷ ts) st = count t (counting ts st)
