-- `answer::answer_gossip` meets its contract: what stops the gossip is said; with nothing, its reply needs its room
-- first. Assumes nothing.
use mathlib.Core.Path.{refl, subst}
use native.Mathlib.Omega.{arith}
use Rattle.promise.specs.KeepsLaws.{gossip-stopped}
use Rattle.promise.specs.Lent.{Promise, gossip_on}
use Rattle.std.specs.Prelude.{Ok}
use Rattle.gossip_step.specs.Stop.{GossipStop}
use Rattle.book.specs.Heard.{owes_stop, gossip_may, gossip-owes}
use Rattle.book.specs.Stop.{GossipStopOn}
use Rattle.answer.specs.SpeechLaws.{gossip-says}
use Rattle.answer.specs.Answer.{done_by}
use Rattle.answer.specs.AnswerLaws.{short}
use Rattle.answer.proofs.Owes.{answer-says, owes-kept, owes-room, gossip-room}
use Rattle.answer.proofs.answer_gossip.Goals as goal

pub put-requires : goal.put-requires
put-requires c =
    let stopped : (let s = c.args in
    Promise (gossip_on s.b.now s.msg.now) c.in-Err.reply s.b.now) =
    let s = c.args in
    let stop = subst (λ (x : GossipStop). GossipStopOn s.b.now s.msg.now x) c.in-Err.is
    c.gossip_stop.ensures in
    owes_stop _ _ s.b.now (gossip-stopped s.b.now s.msg.now _ stop) in
    let s = c.args in
    answer-says (gossip_on s.b.now s.msg.now) _ _ (stopped) (gossip-says s.b.now s.msg.now)

pub returns-then-out-lt-GOSSIP_ROOM : goal.returns-then-out-lt-GOSSIP_ROOM
returns-then-out-lt-GOSSIP_ROOM c =
    let clear : (let s = c.args in GossipStopOn s.b.now s.msg.now
    (Ok c.in-Ok.incoming)) =
    let s = c.args in
    subst (λ (x : GossipStop). GossipStopOn s.b.now s.msg.now x) c.in-Ok.is c.gossip_stop.ensures in
    let s = c.args in
    short (done_by (gossip_on s.b.now s.msg.now)) s.b.now s.out.now
    (omega (arith, c.if-out-lt-GOSSIP_ROOM.true, gossip-room s.b.now s.msg.now (clear).0))

pub take_gossip-requires : goal.take_gossip-requires
take_gossip-requires c =
    let clear : (let s = c.args in GossipStopOn s.b.now s.msg.now
    (Ok c.in-Ok.incoming)) =
    let s = c.args in
    subst (λ (x : GossipStop). GossipStopOn s.b.now s.msg.now x) c.in-Ok.is c.gossip_stop.ensures in
    let s = c.args in
    let may = gossip_may s.b.now s.msg.now (clear).0 in
    record {
      sound = may.0;
      heard = (clear).1;
      unstopped = may.1;
      new_number = (clear).2;
    }

pub put-requires-in-Ok : goal.put-requires-in-Ok
put-requires-in-Ok c =
    let clear : (let s = c.args in GossipStopOn s.b.now s.msg.now
    (Ok c.in-Ok.incoming)) =
    let s = c.args in
    subst (λ (x : GossipStop). GossipStopOn s.b.now s.msg.now x) c.in-Ok.is c.gossip_stop.ensures in
    let taken : (let s = c.args in
    Promise (gossip_on s.b.now s.msg.now) c.take_gossip.result c.take_gossip.new.b) =
    let s = c.args in
    gossip-owes s.b.now s.msg.now (clear).0 _ _ c.take_gossip.ensures in
    let s = c.args in
    answer-says (gossip_on s.b.now s.msg.now) _ _ (taken) (gossip-says s.b.now s.msg.now)

pub returns-in-Err : goal.returns-in-Err
returns-in-Err c =
    let stopped : (let s = c.args in
    Promise (gossip_on s.b.now s.msg.now) c.in-Err.reply s.b.now) =
    let s = c.args in
    let stop = subst (λ (x : GossipStop). GossipStopOn s.b.now s.msg.now x) c.in-Err.is
    c.gossip_stop.ensures in
    owes_stop _ _ s.b.now (gossip-stopped s.b.now s.msg.now _ stop) in
    let s = c.args in
    owes-kept (gossip_on s.b.now s.msg.now) s.b.now s.out.now s.b.now _ (stopped) _ _
    c.put.ensures.value c.put.ensures.out_after refl

pub returns-else-out-lt-GOSSIP_ROOM : goal.returns-else-out-lt-GOSSIP_ROOM
returns-else-out-lt-GOSSIP_ROOM c =
    let clear : (let s = c.args in GossipStopOn s.b.now s.msg.now
    (Ok c.in-Ok.incoming)) =
    let s = c.args in
    subst (λ (x : GossipStop). GossipStopOn s.b.now s.msg.now x) c.in-Ok.is c.gossip_stop.ensures in
    let taken : (let s = c.args in
    Promise (gossip_on s.b.now s.msg.now) c.take_gossip.result c.take_gossip.new.b) =
    let s = c.args in
    gossip-owes s.b.now s.msg.now (clear).0 _ _ c.take_gossip.ensures in
    let s = c.args in
    owes-room (gossip_on s.b.now s.msg.now) s.b.now s.out.now _ _ (taken) _ _ c.put-in-Ok.ensures.value
    c.put-in-Ok.ensures.out_after
    (omega (arith, c.if-out-lt-GOSSIP_ROOM.false, gossip-room s.b.now s.msg.now (clear).0))
