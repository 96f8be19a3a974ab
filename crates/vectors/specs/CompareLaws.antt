-- Laws of comparing. Assumes nothing.
--     alike-more, alike-off, alike_end    one place, and an end, of a comparison from the front
--     alike_zip                           a count of what is the same, as a chain over both
--     alike_le                            no more is the same than is said, and than is expected
--     to_end                              the part of a list from a place to its end
--     compared_less, compared-all         what a count of the same bytes comes to
--     compared-none                       saying nothing is always right
--     compared_append                     what is said in two pieces is compared piece by piece
--     compared-within                     what is the same lies within what is expected
--     same-equal, equal-same              the outcome is "the same" exactly where the two are equal
use Rattle.std.specs.Prelude.{ℕ, suc, ◌+◌, ◌-◌, ◌≤◌, ◌<◌, Bool, List, [], ◌∷◌, ◌++◌, eqb, take, drop, get_or}
use Rattle.std.specs.Prelude.{Ok, Err}
use native.Mathlib.Omega.{arith}
use Rattle.std.proofs.Math.Path.{◌≡◌, refl}
use Rattle.std.proofs.Common.{ap, ap₂, ◌∙◌, length-drop, drop_of_length-le, take_all}
use Rattle.std.proofs.Math.Bool.{true, false, cond}
use borrow.Author.Tests.{ltb-true, ltb-false, lt-ltb, le-ltb, eq-eqb, ne_eqb, eqb-true}
use Rattle.std.proofs.Math.Dec.{ltb}
use Rattle.std.proofs.Math.ListN.{length, length-append}
use Rattle.std.proofs.Math.Seq.{drop-drop}
use Rattle.std.specs.List.{zip, prefix_len}
use Rattle.lists.specs.Scan.{rest}
use Rattle.vectors.specs.Compare.{Outcome, differs, alike, compared_at, outcome_of, ended_by}

alike-none : (said : List ℕ) → alike said [] ≡ 0
unfolding alike
alike-none [] = refl
alike-none (x ∷ said) = refl

module _ (said expected : List ℕ) (i : ℕ) where
  pub alike-more : i < length said → i < length expected → get_or said i 0 ≡ get_or expected i 0
      → alike (drop i said) (drop i expected) ≡ suc (alike (drop (i + 1) said) (drop (i + 1) expected))
  unfolding alike
  alike-more h k e = rw (rest said i h, rest expected i k, eq-eqb (get_or said i 0) (get_or expected i 0) e)

  pub alike-off : i < length said → i < length expected → (get_or said i 0 ≡ get_or expected i 0 → ⊥)
      → alike (drop i said) (drop i expected) ≡ 0
  unfolding alike
  alike-off h k e = rw (rest said i h, rest expected i k, ne_eqb (get_or said i 0) (get_or expected i 0) e)

  pub alike_end : length expected ≤ i → alike (drop i said) (drop i expected) ≡ 0
  alike_end h = rw (drop_of_length-le expected h) (alike-none (drop i said))

  pub alike_all : length said ≤ i → alike (drop i said) (drop i expected) ≡ 0
  unfolding alike
  alike_all h = rw (drop_of_length-le said h)

-- how many pairs at the front agree
pub alike_zip : (said expected : List ℕ) → alike said expected ≡ prefix_len (λ p. eqb p.0 p.1) (zip said expected)
unfolding alike
alike_zip [] expected = refl
alike_zip (x ∷ said) [] = refl
alike_zip (x ∷ said) (y ∷ expected) =
    ap (λ (n : ℕ). cond (eqb x y) n 0) (ap suc (alike_zip said expected) ∙ omega arith)

pub alike_le : (said expected : List ℕ) → (alike said expected ≤ length said) × (alike said expected ≤ length expected)
unfolding alike
alike_le [] expected = (omega arith, omega arith)
alike_le (x ∷ said) [] = (omega arith, omega arith)
alike_le (x ∷ said) (y ∷ expected) = go (eqb x y) (alike_le said expected)
  where
    go : (c : Bool) → (alike said expected ≤ length said) × (alike said expected ≤ length expected)
        → (cond c (suc (alike said expected)) 0 ≤ suc (length said))
        × (cond c (suc (alike said expected)) 0 ≤ suc (length expected))
    go true r = (omega arith, omega arith)
    go false r = (omega arith, omega arith)

pub to_end : (at : ℕ) (e : List ℕ) → take (length e - at) (drop at e) ≡ drop at e
to_end at e = take_all (length e - at) (drop at e) (omega (arith, length-drop at e))

-- what a comparison of the rest of a list goes by
pub ruleset comparing = (to_end, alike_le)

-- a count of what is the same
module _ (at : ℕ) (said e : List ℕ) (same : ℕ) (q : same ≡ alike said (take (length e - at) (drop at e))) where
  same_is : same ≡ alike said (drop at e)
  same_is = q ∙ ap (alike said) (to_end at e)

  pub counted-within : same ≤ length e - at
  counted-within = omega (arith, same_is, (alike_le said (drop at e)).1, length-drop at e)

  pub compared_less : same < length said → differs (at + same) ≡ compared_at at said e
  unfolding compared_at
  compared_less h = rw (← same_is, lt-ltb same (length said) h)

  pub compared-all : length said ≤ same → Ok (at + same) ≡ compared_at at said e
  unfolding compared_at
  compared-all h = rw (← same_is, le-ltb same (length said) h)

-- two pieces: the second counts where the first is wholly there
all_append : (r s e : List ℕ) → alike r e ≡ length r → alike (r ++ s) e ≡ length r + alike s (drop (length r) e)
unfolding alike
all_append [] s e h = omega arith
all_append (x ∷ r) s [] h = absurd (omega arith)
all_append (x ∷ r) s (y ∷ e) h = go (λ k. all_append r s e k) (eqb x y) h
  where
    go : (alike r e ≡ length r → alike (r ++ s) e ≡ length r + alike s (drop (length r) e)) → (c : Bool)
        → cond c (suc (alike r e)) 0 ≡ suc (length r)
        → cond c (suc (alike (r ++ s) e)) 0 ≡ suc (length r) + alike s (drop (length r) e)
    go more true k = omega (arith, more (omega arith))
    go more false k = absurd (omega arith)

less_append : (r s e : List ℕ) → alike r e < length r → alike (r ++ s) e ≡ alike r e
unfolding alike
less_append [] s e h = absurd (omega arith)
less_append (x ∷ r) s [] h = refl
less_append (x ∷ r) s (y ∷ e) h = go (λ k. less_append r s e k) (eqb x y) h
  where
    go : (alike r e < length r → alike (r ++ s) e ≡ alike r e) → (c : Bool)
        → cond c (suc (alike r e)) 0 < suc (length r) → cond c (suc (alike (r ++ s) e)) 0 ≡ cond c (suc (alike r e)) 0
    go more true k = ap suc (more (omega arith))
    go more false k = refl

-- saying nothing is always right
pub compared-none : (at : ℕ) (e : List ℕ) → compared_at at [] e ≡ Ok at
unfolding compared_at alike
compared-none at e = let z : at + 0 ≡ at = omega arith in rw z

-- goes on from where the first piece ended
abbrev pub then_at : Outcome → List ℕ → List ℕ → Outcome
then_at (Ok at) said expected = compared_at at said expected
then_at (Err e) said expected = Err e

further : (n same said at : ℕ)
    → cond (ltb (n + same) (n + said)) (differs (at + (n + same))) (Ok (at + (n + same)))
    ≡ cond (ltb same said) (differs (at + n + same)) (Ok (at + n + same))
further n same said at = go (ltb same said) refl
  where
    place : at + (n + same) ≡ at + n + same
    place = omega arith

    go : (c : Bool) → ltb same said ≡ c
        → cond (ltb (n + same) (n + said)) (differs (at + (n + same))) (Ok (at + (n + same)))
        ≡ cond c (differs (at + n + same)) (Ok (at + n + same))
    go true e = rw (lt-ltb (n + same) (n + said) (omega (arith, ltb-true same said e)), place)
    go false e = rw (le-ltb (n + same) (n + said) (omega (arith, ltb-false same said e)), place)

module _ (at : ℕ) (r s e : List ℕ) where
  pub compared_append : compared_at at (r ++ s) e ≡ then_at (compared_at at r e) s e
  unfolding compared_at
  compared_append = go (ltb (alike r (drop at e)) (length r)) refl
    where
      go : (c : Bool) → ltb (alike r (drop at e)) (length r) ≡ c
          → cond (ltb (alike (r ++ s) (drop at e)) (length (r ++ s)))
          (differs (at + alike (r ++ s) (drop at e))) (Ok (at + alike (r ++ s) (drop at e)))
          ≡ then_at (cond c (differs (at + alike r (drop at e))) (Ok (at + alike r (drop at e)))) s e
      go true h =
          let l = ltb-true (alike r (drop at e)) (length r) h in
          let less = lt-ltb (alike r (drop at e)) (length r + length s) (omega arith) in
          rw (less_append r s (drop at e) l, length-append r s, less)
      go false h =
          let l = ltb-false (alike r (drop at e)) (length r) h in
          let all : alike r (drop at e) ≡ length r = omega (arith, (alike_le r (drop at e)).0) in
          rw (all_append r s (drop at e) all, length-append r s, all, ← drop-drop (length r) at e)
          (further (length r) (alike s (drop (length r) (drop at e))) (length s) at)

pub compared-within : (at p : ℕ) (r e : List ℕ) → at ≤ length e → compared_at at r e ≡ Ok p → p ≤ length e
unfolding compared_at
compared-within at p r e h = go (ltb (alike r (drop at e)) (length r))
  where
    go : (c : Bool) → cond c (differs (at + alike r (drop at e))) (Ok (at + alike r (drop at e))) ≡ Ok p
        → p ≤ length e
    go true q = let z : ◌≡◌ {A = ℕ} 0 1 = cc in absurd (omega arith)
    go false q = let z : at + alike r (drop at e)
        ≡ p = cc in omega (arith, (alike_le r (drop at e)).1, length-drop at e)

-- the whole
alike-equal : (said e : List ℕ) → length said ≤ alike said e → length e ≤ length said → said ≡ e
unfolding alike
alike-equal [] [] h k = refl
alike-equal [] (y ∷ e) h k = absurd (omega arith)
alike-equal (x ∷ said) [] h k = absurd (omega arith)
alike-equal (x ∷ said) (y ∷ e) h k = go (λ l. alike-equal said e l (omega arith)) (eqb x y) refl h
  where
    go : (length said ≤ alike said e → said ≡ e) → (c : Bool) → eqb x y ≡ c
        → suc (length said) ≤ cond c (suc (alike said e)) 0 → x ∷ said ≡ y ∷ e
    go more true q l = ap₂ ◌∷◌ (eqb-true x y q) (more (omega arith))
    go more false q l = absurd (omega arith)

alike_self : (said : List ℕ) → alike said said ≡ length said
unfolding alike
alike_self [] = refl
alike_self (x ∷ said) = rw (eq-eqb x x refl, alike_self said)

module _ (said e : List ℕ) where
  pub same-equal : (p : ℕ) → outcome_of said e ≡ Ok p → said ≡ e
  unfolding compared_at
  same-equal p = go (ltb (alike said e) (length said)) refl (ltb (0 + alike said e) (length e)) refl
    where
      go : (c : Bool) → ltb (alike said e) (length said) ≡ c → (d : Bool) → ltb (0 + alike said e) (length e) ≡ d
          → ended_by (cond c (differs (0 + alike said e)) (Ok (0 + alike said e))) e ≡ Ok p → said ≡ e
      go true h d k q = let z : ◌≡◌ {A = ℕ} 0 1 = cc in absurd (omega arith)
      go false h true k q = let r = rw k at q in let z : ◌≡◌ {A = ℕ} 0 1 = cc in absurd (omega arith)
      go false h false k q =
          let l = ltb-false (0 + alike said e) (length e) k in
          alike-equal said e (ltb-false (alike said e) (length said) h) (omega (arith, l, (alike_le said e).0))

  pub equal-same : said ≡ e → outcome_of said e ≡ Ok (length said)
  unfolding compared_at
  equal-same q =
      let none : 0 + length said ≡ length said = omega arith in
      let all = le-ltb (length said) (length said) (omega arith) in
      rw (← q, alike_self said, none, all, all)
