-- `answer::answer_question` meets its contract. Assumes nothing.
use mathlib.Core.Path.{refl}
use Rattle.promise.specs.Lent.{question_on}
use Rattle.answer.specs.SpeechLaws.{question-says}
use Rattle.answer.proofs.Owes.{answer-says, owes-kept}
use Rattle.answer.proofs.answer_question.Goals as goal

pub put-requires : goal.put-requires
put-requires c =
    let s = c.args in
    answer-says (question_on s.b.now s.msg.now) _ _ c.question.ensures
    (question-says s.b.now s.msg.now)

pub returns : goal.returns
returns c =
    let s = c.args in
    owes-kept (question_on s.b.now s.msg.now) s.b.now s.out.now s.b.now _ c.question.ensures _ _
    c.put.ensures.value c.put.ensures.out_after refl
