-- Laws of the prompts' words: standings and words give each other back, and what noting a tap comes to. Assumes
-- nothing.
use Rattle.std.specs.Prelude.{ℕ, zero, suc, ◌+◌, ◌*◌, ◌<◌, ◌≡◌, refl, Bool, true, false, ◌&&◌, List, [], ◌∷◌}
use Rattle.std.specs.Prelude.{◌++◌, map, eqb}
use Rattle.std.specs.Prelude.{length, take, drop, get_or, set, replicate}
use Rattle.std.proofs.Common.{add-zero, arith, sym, ap, ◌∙◌, length-set, get_or-take, get_or-drop}
use Rattle.std.specs.Simd.{first_chunks}
use Rattle.std.proofs.lemmas.List.{length-map}
use Rattle.std.proofs.Math.ListN.{get_or-map}
use Rattle.lists.proofs.ElementLaws.{OneMore, at, later}
use Rattle.lists.specs.Order.{same_key}
use Rattle.lists.specs.RowLaws.{length-rows, rows_at}
use Rattle.lists.specs.Rows.{rows, flat}
use Rattle.lists.specs.Tests.{numbers}
use Rattle.limits.specs.Limits.{prompt_count}
use Rattle.tally.specs.Standing.{blank, counts, same_counts, standing, standing_of, of_prompt, how_many, afresh, noted}
use Rattle.tally.proofs.StandingLaws.{afresh-more, afresh-length}
use Rattle.tally.specs.Tap.{tap_of}
use Rattle.tally.specs.declared.Standing.{Standing}
use Rattle.tally.specs.declared.Tap.{Tap}
use Rattle.prompts.specs.Region.{standing_long, prompt_words, standing_in, standings_at, standing_words, noted_at}

-- a region's length is so many standings
long : prompt_count * standing_long ≡ prompt_words
unfolding prompt_count
long = refl

-- standings and words give each other back
cells : (ss : List Standing) → map standing_in (rows standing_long (length ss) (flat (map counts ss))) ≡ ss
unfolding rows flat
cells [] = refl
cells (s ∷ ss) = ap (λ (l : List Standing). s ∷ l) (cells ss)

pub standings-words : (ss : List Standing) → length ss ≡ prompt_count → standings_at (standing_words ss) ≡ ss
unfolding standings_at standing_words
standings-words ss h = ap (λ (n : ℕ). map standing_in (rows standing_long n (flat (map counts ss)))) (sym h) ∙ cells ss

words : (n : ℕ) (r : List ℕ) → length r ≡ n * standing_long
    → flat (map counts (map standing_in (rows standing_long n r))) ≡ r
unfolding rows flat
words zero [] h = refl
words zero (x ∷ r) h = absurd (omega arith)
words (suc n) [] h = absurd (omega arith)
words (suc n) (x ∷ []) h = absurd (omega arith)
words (suc n) (x ∷ y ∷ []) h = absurd (omega arith)
words (suc n) (x ∷ y ∷ z ∷ r) h = ap (λ (l : List ℕ). x ∷ y ∷ z ∷ l) (words n r (omega arith))

pub words_standings : (r : List ℕ) → length r ≡ prompt_words → standing_words (standings_at r) ≡ r
unfolding standings_at standing_words
words_standings r h = words prompt_count r (h ∙ sym long)

pub length_standings : (r : List ℕ) → length (standings_at r) ≡ prompt_count
unfolding standings_at
length_standings r = length-map (rows standing_long prompt_count r) standing_in
    ∙ length-rows standing_long prompt_count r

length-cells : (ss : List Standing) → length (flat (map counts ss)) ≡ length ss * standing_long
unfolding flat
length-cells [] = refl
length-cells (s ∷ ss) = omega (arith, length-cells ss)

pub length-words : (ss : List Standing) → length ss ≡ prompt_count → length (standing_words ss) ≡ prompt_words
unfolding standing_words
length-words ss h = length-cells ss ∙ ap (λ (n : ℕ). n * standing_long) h ∙ long

-- one standing, by its place
pub standing-words : (r : List ℕ) (p : ℕ) → p < prompt_count
    → get_or (standings_at r) p blank
    ≡ record {
      showing = get_or r (p * standing_long) 0;
      accepts = get_or r (p * standing_long + 1) 0;
      declines = get_or r (p * standing_long + 2) 0;
    }
unfolding standings_at
standing-words r p h =
    let first : get_or (take standing_long (drop (p * standing_long) r)) 0 0
    ≡ get_or r (p * standing_long) 0 =
    word 0 (omega arith) ∙ ap (λ (k : ℕ). get_or r k 0) (add-zero (p * standing_long)) in
    get_or-map standing_in (rows standing_long prompt_count r) p []
    ∙ ap standing_in (rows_at standing_long prompt_count r p h)
    ∙ (λ i. record { showing = first i; accepts = word 1 (omega arith) i; declines = word 2 (omega arith) i })
  where
    word : (k : ℕ) → k < standing_long
        → get_or (take standing_long (drop (p * standing_long) r)) k 0 ≡ get_or r (p * standing_long + k) 0
    word k l = get_or-take standing_long (drop (p * standing_long) r) k 0 l ∙ get_or-drop (p * standing_long) r k 0

-- and by its row as `as_chunks` lends it
chunks : (w n : ℕ) (l : List ℕ) → rows w n l ≡ first_chunks w n l
unfolding rows
chunks w zero l = refl
chunks w (suc n) l = ap (λ (rest : List (List ℕ)). take w l ∷ rest) (chunks w n (drop w l))

pub standing-row : (r : List ℕ) (p : ℕ)
    → get_or (standings_at r) p blank ≡ standing_in (get_or (first_chunks standing_long prompt_count r) p [])
unfolding standings_at
standing-row r p =
    get_or-map standing_in (rows standing_long prompt_count r) p []
    ∙ ap (λ (rest : List (List ℕ)). standing_in (get_or rest p [])) (chunks standing_long prompt_count r)

put_cell :
    (ss : List Standing) (p : ℕ) (s : Standing) → p < length ss
    → set (set (set (flat (map counts ss)) (p * standing_long) s.showing) (p * standing_long + 1) s.accepts)
    (p * standing_long + 2) s.declines ≡ flat (map counts (set ss p s))
unfolding flat
put_cell [] p s h = absurd (omega arith)
put_cell (x ∷ ss) zero s h = refl
put_cell (x ∷ ss) (suc p) s h =
    let e : suc p * standing_long ≡ suc (suc (suc (p * standing_long))) = omega arith in
    let f : suc p * standing_long + 1 ≡ suc (suc (suc (p * standing_long + 1))) = omega arith in
    let g : suc p * standing_long + 2 ≡ suc (suc (suc (p * standing_long + 2))) = omega arith in
    rw (g, f, e) (ap (λ (l : List ℕ). x.showing ∷ x.accepts ∷ x.declines ∷ l) (put_cell ss p s (omega arith)))

pub words-set :
    (r : List ℕ) (p : ℕ) (s : Standing) → length r ≡ prompt_words → p < prompt_count
    → set (set (set r (p * standing_long) s.showing) (p * standing_long + 1) s.accepts) (p * standing_long + 2)
    s.declines ≡ standing_words (set (standings_at r) p s)
unfolding standing_words
words-set r p s h k =
    ap (λ (l : List ℕ). set (set (set l (p * standing_long) s.showing) (p * standing_long + 1) s.accepts)
    (p * standing_long + 2) s.declines) (sym (words_standings r h))
    ∙ put_cell (standings_at r) p s (omega (arith, length_standings r))

-- no tap yet: every word is zero
no_words_lem : (k n : ℕ) → flat (map counts (map (standing []) (numbers k n))) ≡ replicate (n * standing_long) 0
unfolding flat standing standing_of of_prompt how_many
no_words_lem k zero = refl
no_words_lem k (suc n) =
    let e : suc n * standing_long ≡ suc (suc (suc (n * standing_long))) = omega arith in
    rw e (ap (λ (l : List ℕ). 0 ∷ 0 ∷ 0 ∷ l) (no_words_lem (suc k) n))

pub words-fresh : standing_words (afresh []) ≡ replicate prompt_words 0
unfolding standing_words afresh
words-fresh = no_words_lem 0 prompt_count ∙ ap (λ (n : ℕ). replicate n 0) long

pub standings-fresh : standings_at (replicate prompt_words 0) ≡ afresh []
standings-fresh = ap standings_at (sym words-fresh) ∙ standings-words (afresh []) (afresh-length [])

-- the same words are the same counts
same_cell : (x y : Standing) (l m : List ℕ)
    → same_key (counts x) (counts y) && same_key l m
    ≡ same_key (x.showing ∷ x.accepts ∷ x.declines ∷ l) (y.showing ∷ y.accepts ∷ y.declines ∷ m)
same_cell x y l m = go (eqb x.showing y.showing) (eqb x.accepts y.accepts) (eqb x.declines y.declines)
  where
    go : (p q r : Bool) → (p && (q && (r && true))) && same_key l m ≡ p && (q && (r && same_key l m))
    go true true true = refl
    go true true false = refl
    go true false r = refl
    go false q r = refl

pub same-counts : (xs ys : List Standing) → length xs ≡ length ys
    → same_key (standing_words xs) (standing_words ys) ≡ same_counts xs ys
unfolding standing_words flat
same-counts [] [] h = refl
same-counts [] (y ∷ ys) h = absurd (omega arith)
same-counts (x ∷ xs) [] h = absurd (omega arith)
same-counts (x ∷ xs) (y ∷ ys) h =
    sym (same_cell x y (standing_words xs) (standing_words ys))
    ∙ ap (λ (c : Bool). same_key (counts x) (counts y) && c) (same-counts xs ys (omega arith))

-- the words of standings with one more tap noted hold them
pub length-noted : (t : Tap) (ss : List Standing) → length (noted_at t ss) ≡ length ss
length-noted t ss = length-set ss t.prompt (noted t (get_or ss t.prompt blank))

pub standings-noted : (t : Tap) (ss : List Standing) → length ss ≡ prompt_count
    → standings_at (standing_words (noted_at t ss)) ≡ noted_at t ss
standings-noted t ss h = standings-words (noted_at t ss) (length-noted t ss ∙ h)

-- one more tap changes one standing
pub prompt-word : (w : ℕ) → (tap_of w).prompt < prompt_count
unfolding prompt_count
prompt-word w = omega arith

pub afresh-first : (t : Tap) (ts : List Tap) → t.prompt < prompt_count → afresh (t ∷ ts) ≡ noted_at t (afresh ts)
afresh-first t ts h = afresh-more t ts (t ∷ ts) at h

last-more : (t : Tap) (ts : List Tap) → OneMore t ts (ts ++ (t ∷ []))
last-more t [] = at
last-more t (u ∷ ts) = later (last-more t ts)

pub afresh-next : (t : Tap) (ts : List Tap) → t.prompt < prompt_count
    → afresh (ts ++ (t ∷ [])) ≡ noted_at t (afresh ts)
afresh-next t ts h = afresh-more t ts (ts ++ (t ∷ [])) (last-more t ts) h
