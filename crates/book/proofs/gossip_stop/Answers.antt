-- `book::gossip_stop` meets its contract. Assumes nothing.
use mathlib.Core.Path.{◌≡◌, sym, subst, ◌∙◌}
use mathlib.Core.Bool.{true}
use lib.Dec.{T}
use borrow.Author.Tests.{not-true, not-false}
use Rattle.lists.specs.Tests.{first_of}
use Rattle.message.specs.Message.{well_formed, message_of}
use Rattle.std.proofs.lemmas.Result.{err_from_is_err_and}
use Rattle.message.specs.Told.{gossip-unread}
use Rattle.meaning.specs.Step.{gossip_stops}
use Rattle.lent.specs.Words.{book_of, lawful}
use Rattle.promise.specs.Lent.{gossip_stop}
use Rattle.book.specs.Heard.{stop_unsound, stop_unread, gossip-heard, gossip-stopped-on}
use Rattle.book.proofs.gossip_stop.Goals as goal

pub returns-then-not-sound : goal.returns-then-not-sound
unfolding gossip_stop
returns-then-not-sound c =
    let s = c.args in
    rw c.into.ensures
    (stop_unsound s.b.now (sym c.sound.ensures ∙ not-true _ c.if-not-sound.true-raw) (well_formed s.msg.now)
    (first_of (gossip_stops (book_of s.b.now) (message_of s.msg.now))))

pub returns-in_err-head : goal.returns-in_err-head
unfolding gossip_stop
returns-in_err-head c =
    let sound-now : lawful c.args.b.now ≡ true =
    sym c.sound.ensures ∙ not-false _ c.if-not-sound.false-raw in
    let s = c.args in
    let told = gossip-unread s.msg.now _ c.in_err-head.ensures in
    let p = err_from_is_err_and c.from_residual.result c.from_residual.ensures.1 in
    rw (p.1, p.2, told.1)
    (stop_unread s.b.now (sound-now) (well_formed s.msg.now) told.0
    (first_of (gossip_stops (book_of s.b.now) (message_of s.msg.now))))

pub stop_gossip-requires : goal.stop_gossip-requires
stop_gossip-requires c =
    let sound-now : lawful c.args.b.now ≡ true =
    sym c.sound.ensures ∙ not-false _ c.if-not-sound.false-raw in
    let s = c.args in
    record {
      sound = subst T (sym (sound-now)) tt;
      heard = gossip-heard s.b.now s.msg.now _ (sound-now) c.in_ok-head.ensures;
    }

pub returns : goal.returns
returns c =
    let sound-now : lawful c.args.b.now ≡ true =
    sym c.sound.ensures ∙ not-false _ c.if-not-sound.false-raw in
    let s = c.args in
    gossip-stopped-on s.b.now s.msg.now _ (sound-now) c.in_ok-head.ensures c.stop_gossip.result c.stop_gossip.ensures
