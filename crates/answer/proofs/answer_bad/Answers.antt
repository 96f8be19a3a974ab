-- `answer::answer_bad` meets its contract. Assumes nothing.
use mathlib.Core.Path.{refl, sym, ◌∙◌}
use borrow.Author.Tests.{not-true, not-false}
use Rattle.answer.specs.Answer.{bad_on}
use Rattle.answer.specs.AnswerLaws.{bad-says}
use Rattle.answer.proofs.Owes.{answer-says, owes-kept, bad_unsound, bad_unread}
use Rattle.answer.proofs.answer_bad.Goals as goal

pub put-requires : goal.put-requires
put-requires c =
    let s = c.args in
    rw c.from.ensures
    (answer-says (bad_on s.b.now) _ _
    (bad_unsound s.b.now (sym c.sound.ensures ∙ not-true _ c.if-not-sound.true-raw)) (bad-says s.b.now))

pub returns-then-not-sound : goal.returns-then-not-sound
returns-then-not-sound c =
    let s = c.args in
    owes-kept (bad_on s.b.now) s.b.now s.out.now s.b.now _
    (bad_unsound s.b.now (sym c.sound.ensures ∙ not-true _ c.if-not-sound.true-raw))
    _ _ (rw c.from.ensures at c.put.ensures.value) (rw c.from.ensures at c.put.ensures.out_after) refl

pub put-requires-2 : goal.put-requires-2
put-requires-2 c =
    let s = c.args in
    rw c.from-2.ensures
    (answer-says (bad_on s.b.now) _ _
    (bad_unread s.b.now (sym c.sound.ensures ∙ not-false _ c.if-not-sound.false-raw)) (bad-says s.b.now))

pub returns : goal.returns
returns c =
    let s = c.args in
    owes-kept (bad_on s.b.now) s.b.now s.out.now s.b.now _
    (bad_unread s.b.now (sym c.sound.ensures ∙ not-false _ c.if-not-sound.false-raw))
    _ _ (rw c.from-2.ensures at c.put-2.ensures.value) (rw c.from-2.ensures at c.put-2.ensures.out_after) refl
