-- `book::gossip` meets its contract: a stop is the answer, and with none the gossip is taken. Assumes nothing.
use mathlib.Core.Path.{subst}
use Rattle.promise.specs.KeepsLaws.{gossip-stopped}
use Rattle.gossip_step.specs.Stop.{GossipStop}
use Rattle.book.specs.Heard.{owes_stop, gossip_may, gossip-owes}
use Rattle.book.specs.Stop.{GossipStopOn}
use Rattle.book.proofs.gossip.Goals as goal

pub take_gossip-requires : goal.take_gossip-requires
take_gossip-requires c =
    let s = c.args in
    let stop = subst (λ (x : GossipStop). GossipStopOn s.b.now s.msg.now x) c.in-Ok.is
    c.gossip_stop.ensures in
    let may = gossip_may s.b.now s.msg.now stop.0 in
    record {
      sound = may.0;
      heard = stop.1;
      unstopped = may.1;
      new_number = stop.2;
    }

pub returns-in-Err : goal.returns-in-Err
returns-in-Err c =
    let s = c.args in
    let stop = subst (λ (x : GossipStop). GossipStopOn s.b.now s.msg.now x) c.in-Err.is
    c.gossip_stop.ensures in
    owes_stop _ _ s.b.now (gossip-stopped s.b.now s.msg.now _ stop)

pub returns-in-Ok : goal.returns-in-Ok
returns-in-Ok c =
    let s = c.args in
    let stop = subst (λ (x : GossipStop). GossipStopOn s.b.now s.msg.now x) c.in-Ok.is
    c.gossip_stop.ensures in
    gossip-owes s.b.now s.msg.now stop.0 _ _ c.take_gossip.ensures
