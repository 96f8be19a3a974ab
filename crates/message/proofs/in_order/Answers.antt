-- `message::in_order` meets its contract. Assumes nothing.
use Rattle.std.proofs.Common.{rules, ◌≡◌, true, false, [], ◌∷◌, arith, sym, ◌∙◌}
use Rattle.lists.specs.Order.{key_before}
use Rattle.stamp.specs.Parts.{list_of}
use Rattle.wire.specs.Kinds.{record_kind}
use Rattle.message.specs.Message.{parts_of}
use Rattle.message.proofs.Turn.{pass_start, pass_unread, pass_falls, pass_on, pass-end}
use Rattle.message.proofs.in_order.Goals as goal

pub loop-i-init : goal.loop-i-init
loop-i-init c = let s = c.args in pass_start s.n (list_of s.m) (parts_of s.count s.msg.now)

pub returns-in_default : goal.returns-in_default
unfolding record_kind
returns-in_default c =
    let s = c.args in
    let l = c.loop-i in
    sym (l.invariant ∙ pass_unread s.n (list_of s.m) s.count s.msg.now l.i (omega arith) _ _
    c.in_default.ensures)

pub returns-then-le : goal.returns-then-le
returns-then-le c =
    let s = c.args in
    let l = c.loop-i in
    let r = c.in-Ok.record in
    let fact : key_before (l.last.0 ∷ l.last.1 ∷ []) (r.origin ∷ r.number ∷ []) ≡ false = search rules in
    sym (l.invariant ∙ pass_falls s.n (list_of s.m) s.count s.msg.now l.i (omega arith) _ _ _ _
    _ c.in-Ok.ensures fact)

pub loop-i-preserved : goal.loop-i-preserved
loop-i-preserved c =
    let s = c.args in
    let l = c.loop-i in
    let r = c.in-Ok.record in
    let fact : key_before (l.last.0 ∷ l.last.1 ∷ []) (r.origin ∷ r.number ∷ []) ≡ true = search rules in
    l.invariant ∙ pass_on s.n (list_of s.m) s.count s.msg.now l.i (omega arith) _ _ _ _ _
    c.in-Ok.ensures fact

pub returns : goal.returns
returns c =
    let s = c.args in
    sym (c.loop-i.invariant ∙ pass-end _ s.count s.msg.now c.loop-i.i _ c.loop-i-test.false)
