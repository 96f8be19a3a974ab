-- Laws: an element put into a rising list parts it, and what is put in before its back leaves the back as it is.
-- Assumes nothing.
--     parts-of        a list whose front fails a test and whose back passes it
--     rising_across   of a rising list, each of the front stands before each of the back
--     insert-parts    one put in: those not after it, it, those after it
--     insert_all-last  of many, the last is put in first
--     insert_all-front what comes before the back is put into the front
--     length-put      each one put in makes the list one longer
use Rattle.std.specs.Prelude.{ℕ, suc, ◌+◌, ◌≡◌, refl, ◌≢◌, Bool, true, false, not, cond, List, [], ◌∷◌, ◌++◌, T, length}
use Rattle.std.proofs.Common.{arith, sym, ap, ap₂, subst, ◌∙◌, append-nil}
use mathlib.Core.List.Memᴰ
use Rattle.lists.specs.Tests.{keep}
use Rattle.lists.specs.Order.{key_before, rising, insert, insert_all}
use Rattle.lists.specs.TestLaws.{◌∈◌, either, here, there, none_in, every-from, is_true, keep-none}
use Rattle.lists.proofs.Sorted.{before_trans, before_irrefl, before-total, head-before, tail-rising, put_all}
use Rattle.lists.proofs.Neighbours.{insert-front}
use Rattle.lists.proofs.ElementLaws.{OneMore, at, later, insert-new}

module _ {A : Type 0} where
  pub keep_append : (p : A → Bool) (xs ys : List A) → keep p (xs ++ ys) ≡ keep p xs ++ keep p ys
  keep_append p [] ys = refl
  keep_append p (x ∷ xs) ys = go (p x) (keep_append p xs ys)
    where
      go : (c : Bool) → keep p (xs ++ ys) ≡ keep p xs ++ keep p ys
          → cond c (x ∷ keep p (xs ++ ys)) (keep p (xs ++ ys)) ≡ cond c (x ∷ keep p xs) (keep p xs) ++ keep p ys
      go true e = ap (λ (l : List A). x ∷ l) e
      go false e = e

  keep_passing : (p : A → Bool) (xs : List A) → ((x : A) → x ∈ xs → p x ≡ true) → keep p xs ≡ xs
  keep_passing p [] f = refl
  keep_passing p (x ∷ xs) f = rw (f x here) (ap (λ (l : List A). x ∷ l) (keep_passing p xs (λ y m. f y (there m))))

  module _ (p : A → Bool) (xs ys : List A) (fails : (x : A) → x ∈ xs → p x ≡ false)
      (passes : (y : A) → y ∈ ys → p y ≡ true) where
    pub parts-of : (keep (λ x. not (p x)) (xs ++ ys) ≡ xs) × (keep p (xs ++ ys) ≡ ys)
    parts-of = (
      keep_append (λ x. not (p x)) xs ys
          ∙ ap₂ ◌++◌ (keep_passing (λ x. not (p x)) xs (λ x m. ap not (fails x m)))
          (keep-none (λ x. not (p x)) ys (λ y m. ap not (passes y m)))
          ∙ append-nil xs,
      keep_append p xs ys ∙ ap₂ ◌++◌ (keep-none p xs fails) (keep_passing p ys passes),
    )

module _ {A : Type 0} (key : A → List ℕ) where
  pub rising_across : (xs ys : List A) → T (rising key (xs ++ ys)) → {x y : A} → x ∈ xs → y ∈ ys
      → T (key_before (key x) (key y))
  rising_across [] ys t m n = none_in m
  rising_across (z ∷ zs) ys t {x} {y} m n =
      either (Memᴰ.cases_cons m)
      (λ e. subst (λ (w : A). T (key_before (key w) (key y))) (sym e)
      (head-before key z (zs ++ ys) t (Memᴰ.append_right zs n)))
      (λ m'. rising_across zs ys (tail-rising key z (zs ++ ys) t) m' n)

  pub insert-parts :
      (x : A) (ys : List A) → T (rising key ys) → ((y : A) → y ∈ ys → key x ≢ key y)
      → insert key x ys ≡ keep (λ y. not (key_before (key x) (key y))) ys
      ++ (x ∷ keep (λ y. key_before (key x) (key y)) ys)
  insert-parts x [] t f = refl
  insert-parts x (y ∷ ys) t f =
      go (key_before (key x) (key y)) refl (key_before (key y) (key x)) refl
      (insert-parts x ys (tail-rising key y ys t) (λ z m. f z (there m)))
    where
      after : A → Bool
      after z = key_before (key x) (key z)

      go :
          (c : Bool) → after y ≡ c → (d : Bool) → key_before (key y) (key x) ≡ d
          → insert key x ys ≡ keep (λ z. not (after z)) ys ++ (x ∷ keep after ys)
          → cond c (x ∷ y ∷ ys) (cond d (y ∷ insert key x ys) (y ∷ ys))
          ≡ cond (not c) (y ∷ keep (λ z. not (after z)) ys) (keep (λ z. not (after z)) ys)
          ++ (x ∷ cond c (y ∷ keep after ys) (keep after ys))
      go true e d e' r =
          let w = parts-of after [] ys (λ z m. none_in m)
          (λ z m. is_true (after z)
          (before_trans (key x) (key y) (key z) (subst T (sym e) tt) (head-before key y ys t m))) in
          sym (ap₂ (λ (b c : List A). b ++ (x ∷ y ∷ c)) w.0 w.1)
      go false e true e' r = ap (λ (l : List A). y ∷ l) r
      go false e false e' r = absurd
          (f y here (before-total (key x) (key y) (subst (λ (c : Bool). T (not c)) (sym e) tt)
          (subst (λ (c : Bool). T (not c)) (sym e') tt)))

  pub insert_all-last : (xs : List A) (x : A) (ys : List A)
      → insert_all key (xs ++ (x ∷ [])) ys ≡ insert_all key xs (insert key x ys)
  insert_all-last [] x ys = refl
  insert_all-last (z ∷ zs) x ys = ap (insert key z) (insert_all-last zs x ys)

  pub insert_all-front :
      (xs ys zs : List A) → ((x : A) → x ∈ xs → (z : A) → z ∈ zs → T (key_before (key x) (key z)))
      → insert_all key xs (ys ++ zs) ≡ insert_all key xs ys ++ zs
  insert_all-front [] ys zs f = refl
  insert_all-front (x ∷ xs) ys zs f =
      ap (insert key x) (insert_all-front xs ys zs (λ w m. f w (there m)))
      ∙ insert-front key x (insert_all key xs ys) zs (every-from (λ z. key_before (key x) (key z)) zs (f x here))

  pub length-put : (xs ys : List A) → T (rising key xs) → ((x y : A) → x ∈ xs → y ∈ ys → key x ≢ key y)
      → length (insert_all key xs ys) ≡ length xs + length ys
  length-put [] ys t f = omega arith
  length-put (x ∷ xs) ys t f =
      omega (
        arith,
        longer (insert-new key x (insert_all key xs ys) fresh),
        length-put xs ys (tail-rising key x xs t) (λ z y m n. f z y (there m) n),
      )
    where
      longer : {z : A} {zs us : List A} → OneMore z zs us → length us ≡ suc (length zs)
      longer at = refl
      longer (later m) = ap suc (longer m)

      fresh : (z : A) → z ∈ insert_all key xs ys → key x ≢ key z
      fresh z m e =
          either ((put_all key xs ys).from z m)
          (λ n. before_irrefl (key x)
          (subst (λ (k : List ℕ). T (key_before (key x) k)) (sym e) (head-before key x xs t n)))
          (λ n. f x z here n e)
