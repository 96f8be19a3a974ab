-- What is said against what is expected: how far they are the same. Assumes nothing.
use Rattle.std.specs.Prelude.{ℕ, suc, ◌+◌, Result, Ok, Err, cond, List, [], ◌∷◌, eqb, ltb, length, drop}
use Rattle.vectors.specs.declared.compare.Differs as differing

-- the same up to a place, or different at it
abbrev pub Outcome : Type 0
Outcome = Result ℕ differing.Differs

abbrev pub differs : ℕ → Outcome
differs at = Err (record { at = at })

-- how many bytes at the front of both are the same
unfoldable pub alike : List ℕ → List ℕ → ℕ
alike [] expected = 0
alike (x ∷ said) [] = 0
alike (x ∷ said) (y ∷ expected) = cond (eqb x y) (suc (alike said expected)) 0

-- all that is said stands at a place of what is expected, and up to where; or the first place where it does not
unfoldable pub compared_at : ℕ → List ℕ → List ℕ → Outcome
compared_at at said expected =
    cond (ltb (alike said (drop at expected)) (length said)) (differs (at + alike said (drop at expected)))
    (Ok (at + alike said (drop at expected)))

-- nothing more is said: nothing more may be expected
abbrev pub ended_by : Outcome → List ℕ → Outcome
ended_by (Ok at) expected = cond (ltb at (length expected)) (differs at) (Ok at)
ended_by (Err e) expected = Err e

-- the whole of what is said against the whole of what is expected
abbrev pub outcome_of : List ℕ → List ℕ → Outcome
outcome_of said expected = ended_by (compared_at 0 said expected) expected
