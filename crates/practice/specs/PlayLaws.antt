-- Laws: what a turn of the small program says, compared with what is expected, where the whole input is read. Assumes
-- nothing.
--     never-reads   nothing more is asked for
--     say-turn      what is said is compared, and then what is said to what is left
--     last_turn_lem, stop-turn   the last turn says all that is still to be said
use Rattle.std.specs.Prelude.{ℕ, ◌+◌, ◌-◌, ◌≡◌, Ok, Bool, true, List, [], ◌++◌, T, length, take, drop}
use Rattle.std.proofs.Common.{sym, ap, ap₂, subst, ◌∙◌, append-nil, take_at, drop-drop}
use Rattle.program.specs.Said.{said_in}
use Rattle.program.specs.Turn.{Turned, turn_on, Turns}
use Rattle.program.proofs.TurnLaws.{turn-told}
use Rattle.program.specs.declared.Turn.{Turn}
use Rattle.program.specs.declared.Turn.TheVariants.{Read, Say, Last, Stop}
use Rattle.vectors.specs.CompareLaws.{to_end, then_at, compared-none, compared_append}
use Rattle.vectors.specs.Compare.{Outcome, compared_at}

-- one turn: what is left of the input is lent from `at` on, and what is said so far ends at `place`
module _ (words input out expected : List ℕ) (at place : ℕ) (opened : Bool) (t : Turn) (after bytes : List ℕ)
    (p : Turns (turn_on words (take (length input - at) (drop at input)) true opened) t after out bytes) where
  abbrev lent : List ℕ
  lent = take (length input - at) (drop at input)

  abbrev turned : Turned
  turned = turn_on words lent true opened

  -- what is lent is all that is left
  lent-all : lent ++ [] ≡ drop at input
  lent-all = append-nil lent ∙ to_end at input

  -- what is said stands at the output's front
  front : (k : ℕ) → k ≡ length turned.says → turned.says ≡ take k bytes
  front k e = sym (ap (take k) p.writes ∙ take_at turned.says (drop (length turned.says) out) k (sym e))

  pub never-reads : (n : ℕ) → t ≡ Read n → ⊥
  never-reads n e = subst T (turn-told words lent true opened t after out bytes p (Read n) e).0 tt

  pub say-turn :
      (used said : ℕ) → t ≡ Say used said → (o : Outcome) → o ≡ compared_at place (take said bytes) expected
      → compared_at place (said_in opened words (drop at input)) expected
      ≡ then_at o (said_in true after (drop (at + used) input)) expected
  say-turn used said e o q =
      let m = turn-told words lent true opened t after out bytes p (Say used said) e in
      let rest = said_in true turned.words (drop used lent ++ []) in
      let behind : drop used lent ++ [] ≡ drop (at + used) input =
      append-nil (drop used lent) ∙ ap (drop used) (to_end at input) ∙ drop-drop used at input in
      ap (λ (l : List ℕ). compared_at place (said_in opened words l) expected) (sym lent-all)
      ∙ ap (λ (l : List ℕ). compared_at place l expected) m.0
      ∙ compared_append place turned.says rest expected
      ∙ ap₂ (λ (x : Outcome) (l : List ℕ). then_at x l expected)
      (ap (λ (l : List ℕ). compared_at place l expected) (front said m.3) ∙ sym q)
      (ap₂ (λ (ws l : List ℕ). said_in true ws l) (sym p.leaves) behind)

  pub last_turn_lem : (said : ℕ) → t ≡ Last said
      → compared_at place (said_in opened words (drop at input)) expected
      ≡ compared_at place (take said bytes) expected
  last_turn_lem said e =
      let m = turn-told words lent true opened t after out bytes p (Last said) e in
      ap (λ (l : List ℕ). compared_at place (said_in opened words l) expected) (sym lent-all)
      ∙ ap (λ (l : List ℕ). compared_at place l expected) (m.0 ∙ front said m.1)

  pub stop-turn : t ≡ Stop → compared_at place (said_in opened words (drop at input)) expected ≡ Ok place
  stop-turn e =
      ap (λ (l : List ℕ). compared_at place (said_in opened words l) expected) (sym lent-all)
      ∙ ap (λ (l : List ℕ). compared_at place l expected) (turn-told words lent true opened t after out bytes p Stop e)
      ∙ compared-none place expected
