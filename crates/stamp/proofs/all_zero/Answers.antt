-- `stamp::all_zero` meets its contract: all words are zero exactly when all are in the fours and behind them. Assumes
-- nothing.
use Prim.Native.Nat.{ℕ, ◌*◌, ◌/◌}
use mathlib.Core.Path.{◌≡◌, sym, ap, ap₂, ◌∙◌}
use mathlib.Core.Bool.{Bool, ◌&&◌}
use mathlib.Core.List.{List}
use lib.Dec.{eqb}
use lib.ListN.{length, drop}
use Rattle.std.specs.Simd.{first_chunks}
use Rattle.lists.specs.RowLaws.{every_chunks}
use Rattle.lists.specs.Tests.{every}
use Rattle.stamp.proofs.all_zero.Goals as goal

module _ (words : List ℕ) (fours : List (List ℕ)) (rest : List ℕ)
    (front : fours ≡ first_chunks 4 (length words / 4) words) (back : rest ≡ drop (length words / 4 * 4) words) where
  abbrev zeros : List ℕ → Bool
  zeros = every (λ x. eqb x 0)

  told : (b : Bool) → every zeros fours ≡ b → zeros words ≡ (b && zeros rest)
  told b e =
      every_chunks (λ x. eqb x 0) 4 (length words / 4) words
      ∙ ap₂ (λ (cs : List (List ℕ)) (l : List ℕ). every zeros cs && zeros l) (sym front) (sym back)
      ∙ ap (λ (a : Bool). a && zeros rest) e

pub returns-then-fours_zero : goal.returns-then-fours_zero
returns-then-fours_zero c =
    c.is_zero.ensures
    ∙ sym (told c.args.s.now _ _ c.as_chunks.ensures.front c.as_chunks.ensures.back _
    (sym c.fours_zero.ensures ∙ c.if-fours_zero.true))

pub returns-else-fours_zero : goal.returns-else-fours_zero
returns-else-fours_zero c =
    c.if-fours_zero.false
    ∙ sym (told c.args.s.now _ _ c.as_chunks.ensures.front c.as_chunks.ensures.back _
    (sym c.fours_zero.ensures ∙ c.if-fours_zero.false))
