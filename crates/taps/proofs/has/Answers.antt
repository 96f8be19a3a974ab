-- `taps::has` meets its contract: a word stands in the words exactly when it stands in their fours or behind them.
-- Assumes nothing.
use Prim.Native.Nat.{ℕ, ◌*◌, ◌/◌}
use mathlib.Core.Path.{◌≡◌, sym, ap, ap₂, ◌∙◌}
use mathlib.Core.Bool.{Bool, ◌||◌}
use mathlib.Core.List.{List}
use lib.Dec.{eqb}
use lib.ListN.{length, drop}
use Rattle.std.specs.Simd.{first_chunks}
use Rattle.lists.specs.RowLaws.{exists_chunks}
use Rattle.lists.specs.Tests.{exists}
use Rattle.tally.specs.Standing.{among}
use Rattle.tally.specs.Tap.{tap_of}
use Rattle.taps.specs.Region.{word_taps}
use Rattle.taps.specs.RegionLaws.{among-taps}
use Rattle.taps.proofs.has.Goals as goal

module _ (w : ℕ) (words : List ℕ) (fours : List (List ℕ)) (rest : List ℕ)
    (front : fours ≡ first_chunks 4 (length words / 4) words) (back : rest ≡ drop (length words / 4 * 4) words) where
  abbrev here : List ℕ → Bool
  here = exists (λ v. eqb v w)

  told : (b : Bool) → exists here fours ≡ b → among (word_taps words) (tap_of w) ≡ (b || here rest)
  told b e =
      among-taps words w
      ∙ exists_chunks (λ v. eqb v w) 4 (length words / 4) words
      ∙ ap₂ (λ (cs : List (List ℕ)) (l : List ℕ). exists here cs || here l) (sym front) (sym back)
      ∙ ap (λ (a : Bool). a || here rest) e

pub returns-then-stands_in_fours : goal.returns-then-stands_in_fours
returns-then-stands_in_fours c =
    let s = c.args in
    let found = c.if-stands_in_fours.true in
    found ∙ sym (told s.w s.words.now _ _ c.as_chunks.ensures.front c.as_chunks.ensures.back _
    (sym c.stands_in_fours.ensures ∙ found))

pub returns-else-stands_in_fours : goal.returns-else-stands_in_fours
returns-else-stands_in_fours c =
    let s = c.args in
    c.stands_in.ensures
    ∙ sym (told s.w s.words.now _ _ c.as_chunks.ensures.front c.as_chunks.ensures.back _
    (sym c.stands_in_fours.ensures ∙ c.if-stands_in_fours.false))
