-- `gossip_step::take_gossip` meets its contract. Assumes nothing.
use mathlib.Core.Path.{◌≡◌, ap₂}
use Rattle.meaning.specs.BookLaws.{me_in}
use Rattle.meaning.specs.Reply.{gossiped}
use Rattle.meaning.specs.Step.{hear_out, gossip_step}
use Rattle.meaning.specs.Done.{GossipDone}
use Rattle.meaning.proofs.StepLaws.{gossip-by-none}
use Rattle.message.specs.Message.{message_of}
use Rattle.lent.specs.SoundWords.{lawful-sound, lawful-held}
use Rattle.lent.specs.Words.{book_of}
use Rattle.promise.specs.LentLaws.{owes}
use Rattle.gossip_step.proofs.take_gossip.Goals as goal

pub known_of-known-requires : goal.known_of-known-requires
known_of-known-requires c =
    let ws = c.args.b.now in
    record {
      held = lawful-held ws c.requires.sound;
      b_bound = me_in (book_of ws) (lawful-sound ws c.requires.sound);
    }

pub take_in-applied-requires : goal.take_in-applied-requires
take_in-applied-requires c =
    let done : (let b = book_of c.args.b.now in
    let m = message_of c.args.msg.now in
    GossipDone b m × (gossip_step b m ≡ hear_out b m)) =
    gossip-by-none (book_of c.args.b.now) (message_of c.args.msg.now) c.requires.unstopped in
    record {
      sound = c.requires.sound;
      heard = c.requires.heard;
      gossip_done = (done).0;
      old_known = c.known_of-known.ensures.0;
      new_number = c.requires.new_number;
    }

pub returns : goal.returns
returns c =
    let done : (let b = book_of c.args.b.now in
    let m = message_of c.args.msg.now in
    GossipDone b m × (gossip_step b m ≡ hear_out b m)) =
    gossip-by-none (book_of c.args.b.now) (message_of c.args.msg.now) c.requires.unstopped in
    let b = book_of c.args.b.now in
    let m = message_of c.args.msg.now in
    owes (gossip_step b m) (hear_out b m) _ _ (done).1 (ap₂ gossiped c.requires.new_number
    c.take_in-applied.ensures.applied_number)
    c.take_in-applied.ensures.b_after
