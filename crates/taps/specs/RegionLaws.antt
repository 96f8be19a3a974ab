-- Laws of the counted taps' words: taps and words give each other back, what the words' order says of the taps, and
-- what inserting a word comes to. Assumes nothing.
use Rattle.std.specs.Prelude.{ℕ, suc, ◌+◌, ◌-◌, ◌≤◌, ◌<◌, ◌≡◌, refl, not, ◌||◌, List, [], ◌∷◌, ◌++◌, map, T, eqb, ltb}
use Rattle.std.specs.Prelude.{length, take, drop, replicate}
use Rattle.std.proofs.Common.{arith, sym, ap, ap₂, subst, ◌∙◌, length-append, length-drop, take-append-drop}
use Rattle.std.proofs.Common.{length-take-le, take_at, eqb→eq}
use Rattle.std.proofs.lemmas.List.{length-map, length-replicate}
use Rattle.std.proofs.Math.Seq.{drop-append-add}
use Rattle.lists.specs.TestLaws.{◌∈◌, here, there, clash, same_test}
use Rattle.lists.proofs.ElementLaws.{OneMore, at, later, insert-new, eq→eqb}
use Rattle.lists.proofs.Neighbours.{map-rising}
use Rattle.lists.specs.Order.{key_before, rising, insert}
use Rattle.lists.proofs.Sorted.{map-insert}
use Rattle.lists.specs.Tests.{every, exists}
use Rattle.lists.specs.Zeros.{all-zeros}
use Rattle.tally.specs.Standing.{among}
use Rattle.tally.specs.Tap.{FitsBits, fields, word_of, tap_of}
use Rattle.tally.proofs.TapLaws.{mem-among}
use Rattle.tally.proofs.WordLaws.{word_tap, tap-word, tap-equal, tap-order, fields-same}
use Rattle.tally.specs.declared.Tap.{Tap}
use Rattle.taps.specs.Region.{word_taps, taps_at, tap_words, inserted_at}

-- taps that fit their words
abbrev pub AllFit : List Tap → Type 0
AllFit ts = (t : Tap) → t ∈ ts → FitsBits t

-- taps and words give each other back
words_of : (l : List ℕ) → map word_of (map tap_of l) ≡ l
words_of [] = refl
words_of (w ∷ l) = ap₂ ◌∷◌ (word_tap w) (words_of l)

taps-of : (ts : List Tap) → AllFit ts → map tap_of (map word_of ts) ≡ ts
taps-of [] f = refl
taps-of (t ∷ ts) f = ap₂ ◌∷◌ (tap-word t (f t here)) (taps-of ts (λ u m. f u (there m)))

pub length-taps : (n : ℕ) (r : List ℕ) → n ≤ length r → length (taps_at n r) ≡ n
unfolding taps_at
length-taps n r h = length-map (take n r) tap_of ∙ length-take-le n r h

pub length-words : (room : ℕ) (ts : List Tap) → length ts ≤ room → length (tap_words room ts) ≡ room
unfolding tap_words
length-words room ts h = simp (length-append, length-map, length-replicate) (omega arith)

pub taps-words : (room : ℕ) (ts : List Tap) → AllFit ts → taps_at (length ts) (tap_words room ts) ≡ ts
unfolding taps_at tap_words
taps-words room ts f = rw (take_at (map word_of ts) (replicate (room - length ts) 0) (length ts)
    (length-map ts word_of))
    (taps-of ts f)

pub words-taps : (room n : ℕ) (r : List ℕ) → n ≤ length r → length r ≡ room → T (every (λ x. eqb x 0) (drop n r))
    → tap_words room (taps_at n r) ≡ r
unfolding taps_at tap_words
words-taps room n r h e z =
    let long : room - n ≡ length (drop n r) = simp length-drop (omega arith) in
    rw (words_of (take n r), length-map (take n r) tap_of, length-take-le n r h, long, ← all-zeros (drop n r) z)
    (take-append-drop n r)

-- the key of a word is its tap's, in whose order it stands as a number
unfoldable pub word_key : ℕ → List ℕ
word_key w = fields (tap_of w)

pub word-before : (v w : ℕ) → key_before (word_key v) (word_key w) ≡ ltb v w
unfolding word_key
word-before v w = tap-order v w

pub rising-taps : (l : List ℕ) → rising fields (word_taps l) ≡ rising word_key l
unfolding word_key
rising-taps l = map-rising tap_of word_key fields (λ w. refl) l

eqb-turned : (v w : ℕ) → eqb v w ≡ eqb w v
eqb-turned v w =
    same_test (eqb v w) (eqb w v) (λ t. eq→eqb w v (sym (eqb→eq v w t))) (λ t. eq→eqb v w (sym (eqb→eq w v t)))

pub among-taps : (l : List ℕ) (w : ℕ) → among (word_taps l) (tap_of w) ≡ exists (λ v. eqb v w) l
unfolding among
among-taps [] w = refl
among-taps (v ∷ l) w = ap₂ ◌||◌ (tap-equal w v ∙ eqb-turned w v) (among-taps l w)

pub inserted-by-words : (n w : ℕ) (r : List ℕ) → inserted_at n w r ≡ insert word_key w (take n r) ++ drop (n + 1) r
unfolding inserted_at taps_at word_key
inserted-by-words n w r =
    rw (← map-insert tap_of word_key fields (λ v. refl) w (take n r), words_of (insert word_key w (take n r)))

-- a tap that is not among some taps makes them one more
pub one_more : (t : Tap) (ts : List Tap) → T (not (among ts t)) → OneMore t ts (insert fields t ts)
one_more t ts n =
    insert-new fields t ts (λ u m e. clash (among ts t)
    (mem-among t ts (subst (λ (x : Tap). x ∈ ts) (sym (fields-same t u e)) m)) n)

one-longer : {t : Tap} {ts us : List Tap} → OneMore t ts us → length us ≡ suc (length ts)
one-longer at = refl
one-longer (later r) = ap suc (one-longer r)

pub length-insert : (t : Tap) (ts : List Tap) → T (not (among ts t)) → length (insert fields t ts) ≡ suc (length ts)
length-insert t ts n = one-longer (one_more t ts n)

-- a new word put into a region that is written from its taps
pub words_inserted :
    (room w : ℕ) (ts : List Tap) → AllFit ts → length ts < room → T (not (among ts (tap_of w)))
    → inserted_at (length ts) w (tap_words room ts) ≡ tap_words room (insert fields (tap_of w) ts)
unfolding inserted_at tap_words
words_inserted room w ts f h new =
    ap₂ (λ (us : List Tap) (l : List ℕ). map word_of (insert fields (tap_of w) us) ++ l) (taps-words room ts f) tail
  where
    tail : drop (length ts + 1) (tap_words room ts) ≡ replicate (room - length (insert fields (tap_of w) ts)) 0
    tail =
        let e : room - length ts ≡ suc (room - suc (length ts)) = omega arith in
        ap (λ (k : ℕ). drop (k + 1) (tap_words room ts)) (sym (length-map ts word_of))
        ∙ drop-append-add (map word_of ts) (replicate (room - length ts) 0) 1
        ∙ rw (e, length-insert (tap_of w) ts new)
