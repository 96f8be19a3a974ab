-- Laws: in a rising list the elements of one value stand together, past the lower ones. Assumes nothing.
--     count_next   how many stand below the next value
--     one_run      the lower ones, those of the value, the upper ones
use Rattle.std.specs.Prelude.{ℕ, ◌+◌, ◌≤◌, ◌<◌, ◌≡◌, refl, List, [], ◌∷◌, ◌++◌, T, ltb, eqb, length}
use Rattle.std.proofs.Common.{arith, ap, lt-ltb, le-ltb, eq-eqb, ne_eqb}
use Rattle.lists.specs.TestLaws.{either, bit, ◌∈◌, keep-none, keep-length}
use Rattle.lists.specs.Order.{key_before, rising}
use Rattle.lists.specs.Scan.{le_or_lt}
use Rattle.lists.proofs.Sorted.{head-before, tail-rising}
use Rattle.lists.specs.Tests.{keep}

bits : (x o : ℕ) → bit (ltb x (o + 1)) ≡ bit (ltb x o) + bit (eqb x o)
bits x o =
    either (le_or_lt o x)
    (λ h. either (le_or_lt x o) (λ k. rw (lt-ltb x (o + 1) (omega arith), le-ltb x o h, eq-eqb x o (omega arith)))
    (λ k. rw (le-ltb x (o + 1) (omega arith), le-ltb x o h, ne_eqb x o (λ e. omega arith))))
    (λ h. rw (lt-ltb x (o + 1) (omega arith), lt-ltb x o h, ne_eqb x o (λ e. omega arith)))

module _ {A : Type 0} (f : A → ℕ) (o : ℕ) where
  pub count_next : (xs : List A)
      → length (keep (λ x. ltb (f x) (o + 1)) xs) ≡ length (keep (λ x. ltb (f x) o) xs)
      + length (keep (λ x. eqb (f x) o) xs)
  count_next [] = refl
  count_next (x ∷ xs) =
      omega (
        arith,
        keep-length (λ y. ltb (f y) (o + 1)) x xs,
        keep-length (λ y. ltb (f y) o) x xs,
        keep-length (λ y. eqb (f y) o) x xs,
        bits (f x) o,
        count_next xs,
      )

  module _ (key : A → List ℕ) (climbs : (x y : A) → T (key_before (key x) (key y)) → f x ≤ f y) where
    pub one_run : (xs : List A) → T (rising key xs)
        → keep (λ x. ltb (f x) o) xs ++ (keep (λ x. eqb (f x) o) xs ++ keep (λ x. ltb o (f x)) xs) ≡ xs
    one_run [] t = refl
    one_run (x ∷ xs) t = split (one_run xs (tail-rising key x xs t))
      where
        above : (y : A) → y ∈ xs → f x ≤ f y
        above y m = climbs x y (head-before key x xs t m)

        none-lower : o ≤ f x → keep (λ y. ltb (f y) o) xs ≡ []
        none-lower h = keep-none (λ y. ltb (f y) o) xs (λ y m. le-ltb (f y) o (omega (arith, above y m)))

        none-same : o < f x → keep (λ y. eqb (f y) o) xs ≡ []
        none-same h = keep-none (λ y. eqb (f y) o) xs (λ y m. ne_eqb (f y) o (λ e. omega (arith, above y m)))

        split :
            keep (λ y. ltb (f y) o) xs ++ (keep (λ y. eqb (f y) o) xs ++ keep (λ y. ltb o (f y)) xs) ≡ xs
            → keep (λ y. ltb (f y) o) (x ∷ xs) ++ (keep (λ y. eqb (f y) o) (x ∷ xs) ++ keep (λ y. ltb o (f y)) (x ∷ xs))
            ≡ x ∷ xs
        split rest =
            either (le_or_lt o (f x))
            (λ h. either (le_or_lt (f x) o)
            (λ k. rw (le-ltb (f x) o h, eq-eqb (f x) o (omega arith), le-ltb o (f x) k, none-lower h)
            (ap (λ (l : List A). x ∷ l) (rw (none-lower h) at rest)))
            (λ k. rw (le-ltb (f x) o h, ne_eqb (f x) o (λ e. omega arith), lt-ltb o (f x) k, none-lower h, none-same k)
            (ap (λ (l : List A). x ∷ l) (rw (none-lower h, none-same k) at rest))))
            (λ h. rw (lt-ltb (f x) o h, ne_eqb (f x) o (λ e. omega arith), le-ltb o (f x) (omega arith))
            (ap (λ (l : List A). x ∷ l) rest))
