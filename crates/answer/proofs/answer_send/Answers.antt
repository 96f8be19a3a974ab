-- `answer::answer_send` meets its contract. Assumes nothing.
use native.Mathlib.Omega.{arith}
use mathlib.Core.List.{[], ◌∷◌}
use mathlib.Core.Path.{◌≡◌, ap}
use types.Run.{OneOf, miss}
use Rattle.wire.specs.Refusal.{table_number}
use Rattle.wire.specs.declared.Refusal.{Refusal}
use Rattle.wire.specs.declared.Refusal.TheVariants.{Bad, WrongHouse, UnknownLabel, Old, Crossed, Ahead, Spent, Gap}
use Rattle.wire.specs.declared.Refusal.TheVariants.{NoRoom, Unsound, Short}
use Rattle.answer.specs.SpeechLaws.{refusal-says}
use Rattle.answer.proofs.Owes.{send-wrote, send-short, send-owes}
use borrow.Enum.Refused.{opened}
use Rattle.answer.proofs.answer_send.Goals as goal

pub returns-in-Ok : goal.returns-in-Ok
returns-in-Ok c = let s = c.args in send-wrote s.b.now s.out.now _ _ _ c.in-Ok.is c.send.ensures

pub returns-in-Err-Short : goal.returns-in-Err-Short
returns-in-Err-Short c =
    let s = c.args in
    send-short s.b.now s.out.now _ _ _ c.in-Err-Short.is c.send.ensures (ap table_number c.in-Err-Short.field-0-is)

pub put-requires : goal.put-requires
put-requires c = rw c.from.ensures (refusal-says c.in-Err.refusal)

-- the third arm: any refusal but the last of the table, which the second took
not_short : (r : Refusal) → OneOf (0 ∷ 1 ∷ 2 ∷ 3 ∷ 4 ∷ 5 ∷ 6 ∷ 7 ∷ 8 ∷ 9 ∷ [])
    (denote.Enum.Declared.tag_of Rattle.wire.specs.contracts.Refusal.the_type r) → table_number r ≡ 12 → ⊥
not_short Bad h e = omega arith
not_short WrongHouse h e = omega arith
not_short UnknownLabel h e = omega arith
not_short Old h e = omega arith
not_short Crossed h e = omega arith
not_short Ahead h e = omega arith
not_short Spent h e = omega arith
not_short Gap h e = omega arith
not_short NoRoom h e = omega arith
not_short Unsound h e = omega arith
not_short Short h e = miss (0 ∷ 1 ∷ 2 ∷ 3 ∷ 4 ∷ 5 ∷ 6 ∷ 7 ∷ 8 ∷ 9 ∷ []) 10 tt h

pub returns-in-Err : goal.returns-in-Err
returns-in-Err c =
    let s = c.args in
    send-owes s.b.now s.out.now _ _ _ c.in-Err.is c.send.ensures
    (not_short c.in-Err.refusal (opened c.in-Err.in-Err-own'.keys2)) _ _ (rw c.from.ensures at c.put.ensures.value)
    (rw c.from.ensures at c.put.ensures.out_after)
