-- The first record with a body: its place in the list, the list's length if there is none. Assumes nothing.
--     first_found   there is one exactly when it is below
--     first_place   it is where the search for the body, `find_body`, stops
use Rattle.std.specs.Prelude.{ℕ, suc, ◌+◌, ◌≡◌, refl, Bool, true, false, not, ◌||◌, cond, List, [], ◌∷◌, eqb, ltb}
use Rattle.std.specs.Prelude.{length, Option, None, Some, position}
use Rattle.std.specs.List.{position_or_len}
use Rattle.std.proofs.Common.{arith, sym, ap, ◌∙◌, ltb→lt, lt→ltb, lt-ltb}
use Rattle.lists.specs.Tests.{exists}
use Rattle.lists.specs.TestLaws.{same_test}
use Rattle.ledger.specs.Record.{Record}

unfoldable pub first_with : ℕ → List Record → ℕ
first_with w [] = 0
first_with w (r ∷ rs) = cond (eqb r.body w) 0 (suc (first_with w rs))

-- there is one exactly when the place is one of the list's
pub first_found : (w : ℕ) (rs : List Record) → exists (λ r. eqb r.body w) rs ≡ ltb (first_with w rs) (length rs)
unfolding first_with
first_found w [] = refl
first_found w (r ∷ rs) = go (eqb r.body w) (first_found w rs)
  where
    go : (c : Bool) → exists (λ x. eqb x.body w) rs ≡ ltb (first_with w rs) (length rs)
        → (c || exists (λ x. eqb x.body w) rs) ≡ ltb (cond c 0 (suc (first_with w rs))) (suc (length rs))
    go true e = sym (lt-ltb 0 (suc (length rs)) (omega arith))
    go false e =
        e
        ∙ same_test (ltb (first_with w rs) (length rs)) (ltb (suc (first_with w rs)) (suc (length rs)))
        (λ t. lt→ltb (suc (first_with w rs)) (suc (length rs)) (omega (arith, ltb→lt (first_with w rs) (length rs) t)))
        (λ t. lt→ltb (first_with w rs) (length rs) (omega (arith, ltb→lt (suc (first_with w rs)) (suc (length rs)) t)))

same_place : (w : ℕ) (rs : List Record) → position_or_len (λ r. eqb r.body w) rs ≡ first_with w rs
unfolding first_with
same_place w [] = refl
same_place w (r ∷ rs) = go (eqb r.body w) (same_place w rs)
  where
    go : (c : Bool) → position_or_len (λ x. eqb x.body w) rs ≡ first_with w rs
        → cond (not c) (1 + position_or_len (λ x. eqb x.body w) rs) 0 ≡ cond c 0 (suc (first_with w rs))
    go true e = refl
    go false e = omega (arith, e)

-- the search finds that place, or none where there is none
pub first_place : (w : ℕ) (rs : List Record) → position (λ r. eqb r.body w) rs
    ≡ cond {A = Option ℕ} (ltb (first_with w rs) (length rs)) (Some (first_with w rs)) None
first_place w rs = ap (λ n. cond {A = Option ℕ} (ltb n (length rs)) (Some n) None) (same_place w rs)
