-- `gossip_step::take_in` meets its contract. Assumes nothing.
use mathlib.Core.Path.{sym, subst, ◌∙◌}
use Rattle.stamp.specs.Parts.{list_of}
use Rattle.meaning.specs.BookLaws.{me_in}
use Rattle.lent.specs.SoundWords.{lawful-sound, lawful-held}
use Rattle.lent.specs.Words.{book_of}
use Rattle.gossip_step.specs.Taken.{Raisable}
use Rattle.gossip_step.proofs.Done.{raisable, rows_give, new-gives, settled_is}
use Rattle.gossip_step.proofs.take_in.Goals as goal

pub ready_of-before-requires : goal.ready_of-before-requires
ready_of-before-requires c =
    let ws = c.args.b.now in
    record {
      held = lawful-held ws c.requires.sound;
      b_bound = me_in (book_of ws) (lawful-sound ws c.requires.sound);
    }

pub raise_rows-requires : goal.raise_rows-requires
raise_rows-requires c =
    let w = c.args in
    let can = raisable w.b.now w.msg.now w.incoming.head.sender w.incoming.head.screens w.incoming.head.count
    (list_of w.incoming.head.stamp) in
    let rows = can c.requires.sound c.requires.heard c.requires.gossip_done in
    record {
      held = lawful-held w.b.now c.requires.sound;
      raisable = subst (Raisable (book_of w.b.now) w.incoming.head.sender) (sym c.list_of-s.ensures) rows;
    }

pub take_new-requires : goal.take_new-requires
take_new-requires c =
    let w = c.args in
    let give = rows_give w.b.now w.msg.now w.incoming.head.sender w.incoming.head.screens w.incoming.head.count
    (list_of w.incoming.head.stamp) in
    let all = give c.requires.sound c.requires.heard c.requires.gossip_done _ c.list_of-s.ensures _ c.raise_rows.ensures
    w.old.now c.requires.old_known w.incoming.new c.requires.new_number in
    record { held = all.0; coming = all.1.0; fresh = all.1.1.0; len_bound = all.1.1.1 }

pub settle_book-requires : goal.settle_book-requires
settle_book-requires c =
    let w = c.args in
    let give = new-gives w.b.now w.msg.now w.incoming.head.sender w.incoming.head.screens w.incoming.head.count
    (list_of w.incoming.head.stamp) in
    let all = give c.requires.sound c.requires.heard c.requires.gossip_done _ c.list_of-s.ensures _ c.raise_rows.ensures
    w.old.now c.requires.old_known w.incoming.new c.requires.new_number _ c.take_new.ensures _
    c.ready_of-before.ensures.0 in
    record { held = all.0; b_bound = all.1.0; appliable = all.1.1 }

pub returns : goal.returns
returns c =
    let w = c.args in
    let is = settled_is w.b.now w.msg.now w.incoming.head.sender w.incoming.head.screens w.incoming.head.count
    (list_of w.incoming.head.stamp) in
    let e =
    is c.requires.sound c.requires.heard c.requires.gossip_done _ c.list_of-s.ensures _ c.raise_rows.ensures
    w.old.now c.requires.old_known w.incoming.new c.requires.new_number _ c.take_new.ensures _
    c.ready_of-before.ensures.0 in
    record {
      b_after = c.settle_book.ensures.b_after ∙ e.0;
      applied_number = c.settle_book.ensures.value ∙ e.1;
    }
