-- `answer::answer` meets its contract. Assumes nothing.
use mathlib.Core.Path.{sym, ◌∙◌}
use Rattle.answer.specs.AnswerLaws.{gossip-done, tap-done, question-done, other-done}
use Rattle.answer.proofs.Owes.{same-done}
use Rattle.answer.proofs.answer.Goals as goal

pub returns-in-1 : goal.returns-in-1
returns-in-1 c =
    let s = c.args in
    same-done s.b.now s.out.now _ _ _
    (gossip-done s.b.now s.msg.now
    (sym c.kind_of.ensures
    ∙ c.in-1.is))
    c.answer_gossip.ensures

pub returns-in-3 : goal.returns-in-3
returns-in-3 c =
    let s = c.args in
    same-done s.b.now s.out.now _ _ _
    (tap-done s.b.now s.msg.now
    (sym c.kind_of.ensures
    ∙ c.in-3.is))
    c.answer_tap.ensures

pub returns-in-4 : goal.returns-in-4
returns-in-4 c =
    let s = c.args in
    same-done s.b.now s.out.now _ _ _
    (question-done s.b.now s.msg.now
    (sym c.kind_of.ensures
    ∙ c.in-4.is)) c.answer_question.ensures

pub returns-in_default : goal.returns-in_default
returns-in_default c =
    let s = c.args in
    let r = c.in_default.in_default-own.rest in
    let k = c.kind_of.ensures in
    same-done s.b.now s.out.now _ _ _
    (other-done s.b.now s.msg.now (λ e. r.0.0.1 (k ∙ e)) (λ e. r.0.1 (k ∙ e)) (λ e. r.1 (k ∙ e)))
    c.answer_other.ensures
