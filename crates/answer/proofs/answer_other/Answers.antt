-- `answer::answer_other` meets its contract. Assumes nothing.
use mathlib.Core.Path.{ap}
use mathlib.Core.Bool.{Bool, cond}
use Rattle.lists.specs.TestLaws.{is_true}
use Rattle.wire.specs.Read.{readable}
use Rattle.wire.proofs.ReadLaws.{told, unread}
use Rattle.wire.specs.Kinds.{send_kind}
use Rattle.answer.specs.Answer.{done_by, send_done, bad_on}
use Rattle.answer.proofs.Owes.{same-done}
use Rattle.answer.proofs.answer_other.Goals as goal

pub returns-in-Err : goal.returns-in-Err
returns-in-Err c =
    let s = c.args in
    same-done s.b.now s.out.now _ _ _
    (ap (λ (x : Bool). cond x (send_done s.b.now) (done_by (bad_on s.b.now)))
    (unread send_kind s.msg.now _ c.in-Err.ensures).0)
    c.answer_bad.ensures

pub returns-in-Ok : goal.returns-in-Ok
returns-in-Ok c =
    let s = c.args in
    same-done s.b.now s.out.now _ _ _
    (ap (λ (x : Bool). cond x (send_done s.b.now) (done_by (bad_on s.b.now)))
    (is_true (readable send_kind s.msg.now) (told send_kind s.msg.now _ c.in-Ok.ensures).0))
    c.answer_send.ensures
