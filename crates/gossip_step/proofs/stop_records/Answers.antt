-- `gossip_step::stop_records` meets its contract: a gap, no room, or nothing that stops it. Assumes nothing.
use native.Mathlib.Omega.{arith}
use mathlib.Core.Path.{refl, sym, ◌∙◌}
use Rattle.stamp.specs.Parts.{list_of}
use Rattle.meaning.specs.BookLaws.{me_in}
use Rattle.lent.specs.SoundWords.{lawful-sound, lawful-held}
use Rattle.lent.specs.Words.{book_of}
use Rattle.limits.specs.LimitLaws.{log_small}
use Rattle.gossip_step.proofs.Message.{count-few}
use Rattle.gossip_step.proofs.Lines.{told, untold, house-few, gap-refused, room-refused, new_is, unrefused}
use Rattle.gossip_step.proofs.stop_records.Goals as goal

pub known_of-known-requires : goal.known_of-known-requires
known_of-known-requires c =
    let ws = c.args.b.now in
    record {
      held = lawful-held ws c.requires.sound;
      b_bound = me_in (book_of ws) (lawful-sound ws c.requires.sound);
    }

pub look_at-requires : goal.look_at-requires
look_at-requires c =
    let w = c.args in
    let h = c.requires.heard in
    record {
      head = h.head;
      msg_value = h.number;
      n_bound = house-few w.b.now w.msg.now w.head.sender w.head.screens w.head.count
          (list_of w.head.stamp) c.requires.sound h
          c.requires.stamp_stands;
    }

pub returns-in_default : goal.returns-in_default
returns-in_default c =
    let w = c.args in
    rw c.from.ensures
    (gap-refused w.b.now w.msg.now w.head.sender w.head.screens w.head.count
    (list_of w.head.stamp) c.requires.sound c.requires.heard
    c.requires.stamp_stands _ c.known_of-known.ensures.0 _ refl (untold _ _ _ (sym c.look_at.ensures.value
    ∙ c.in_default.is)))

pub logged_of-requires : goal.logged_of-requires
logged_of-requires c =
    lawful-held c.args.b.now c.requires.sound

pub overflow_add-logged_of : goal.overflow_add-logged_of
overflow_add-logged_of c =
    let w = c.args in
    let few = count-few w.msg.now w.head.sender w.head.screens w.head.count (list_of w.head.stamp) c.requires.heard in
    let new = (told _ _ _ (sym c.look_at.ensures.value ∙ c.in-Ok.is)).1 in
    record { fits = omega (arith, c.logged_of.ensures.2, c.look_at.ensures.few, new, few, log_small) }

pub returns-then-log_room-logged_of : goal.returns-then-log_room-logged_of
returns-then-log_room-logged_of c =
    let w = c.args in
    let seen = told _ _ _ (sym c.look_at.ensures.value ∙ c.in-Ok.is) in
    rw c.from-then-log_room-logged_of.ensures
    (room-refused w.b.now w.msg.now w.head.sender w.head.screens w.head.count
    (list_of w.head.stamp) c.requires.sound c.requires.heard
    c.requires.stamp_stands _ c.known_of-known.ensures.0 _ refl seen.0 _ seen.1 _ c.logged_of.ensures.0
    (omega (arith, c.log_room.ensures, c.if-log_room-logged_of.true)))

pub returns : goal.returns
returns c =
    let w = c.args in
    let seen = told _ _ _ (sym c.look_at.ensures.value ∙ c.in-Ok.is) in (
      unrefused w.b.now w.msg.now w.head.sender w.head.screens w.head.count
          (list_of w.head.stamp) c.requires.sound c.requires.heard
          c.requires.stamp_stands _ c.known_of-known.ensures.0 _ refl seen.0 _ seen.1 _ c.logged_of.ensures.0
          (omega (arith, c.log_room.ensures, c.if-log_room-logged_of.false)),
      refl,
      new_is w.b.now w.msg.now w.head.sender w.head.screens w.head.count
          (list_of w.head.stamp) c.requires.sound c.requires.heard
          c.requires.stamp_stands _ c.known_of-known.ensures.0 _ refl seen.0 _ seen.1,
    )
