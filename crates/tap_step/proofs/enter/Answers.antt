-- `tap_step::enter` meets its contract. Assumes nothing.
use Prim.Native.Nat.{◌<◌}
use native.Mathlib.Omega.{arith}
use mathlib.Core.Path.{sym, ap, subst, ◌∙◌}
use Rattle.limits.specs.Limits.{parts}
use Rattle.stamp.specs.Parts.{list_of}
use Rattle.tally.specs.Body.{body_of}
use Rattle.ledger.specs.Record.{Record, stamp_of}
use Rattle.meaning.specs.BookLaws.{me_in, known-fits}
use Rattle.meaning.specs.Step.{new_record}
use Rattle.meaning.proofs.StepLaws.{new-origin}
use Rattle.lent.specs.Words.{book_of}
use Rattle.tap_step.proofs.Entered.{raised-held, raised-fresh, raised-room, put-held, put-me, put-ready}
use Rattle.tap_step.proofs.Entered.{put-settled}
use Rattle.tap_step.proofs.Turn.{own_small}
use Rattle.tap_step.proofs.enter.Goals as goal

pub ready_of-before-requires : goal.ready_of-before-requires
ready_of-before-requires c =
    record {
      held = c.requires.held;
      b_bound = me_in (book_of c.args.b.now) c.requires.take_done.sound-before;
    }

pub new_row-row-requires : goal.new_row-row-requires
new_row-row-requires c =
    let b = book_of c.args.b.now in
    let z = c.requires.take_done.sound-before in
    record {
      held = c.requires.held;
      b_bound = me_in b z;
      b_bound_2 = (known-fits b z).words b.me;
      t = c.requires.t;
    }

pub raise_own-requires : goal.raise_own-requires
raise_own-requires c =
    record {
      held = c.requires.held;
      b_bound = me_in (book_of c.args.b.now) c.requires.take_done.sound-before;
    }

pub put_record-requires : goal.put_record-requires
put_record-requires c =
    let b = book_of c.args.b.now in
    let x = body_of c.args.w in
    let l = list_of c.args.label in
    let d = c.requires.take_done in
    let e = c.new_row-row.ensures in
    let f = c.raise_own.ensures in
    let row = c.new_row-row.result in
    record {
      held = raised-held b x l d row e _ f;
      fresh = raised-fresh b x l d row e _ f;
      b_len_bound = raised-room b x l d row e _ f;
    }

pub settle_book-requires : goal.settle_book-requires
settle_book-requires c =
    let b = book_of c.args.b.now in
    let x = body_of c.args.w in
    let l = list_of c.args.label in
    let d = c.requires.take_done in
    let e = c.new_row-row.ensures in
    let f = c.raise_own.ensures in
    let g = c.put_record.ensures in
    let row = c.new_row-row.result in
    record {
      held = put-held b x l d row e _ f _ g;
      b_bound = put-me b x l d row e _ f _ g;
      appliable = put-ready b x l d row e _ f _ g _ c.ready_of-before.ensures.0;
    }

pub stamp_parts-requires : goal.stamp_parts-requires
stamp_parts-requires c =
    let b = book_of c.args.b.now in
    let x = body_of c.args.w in
    let l = list_of c.args.label in
    let low : (new_record b x l).origin < parts =
    omega (arith, new-origin b x l, own_small b c.requires.take_done.sound-before) in
    subst (λ (z : Record). z.origin < parts) (sym c.new_row-row.ensures) low

pub returns : goal.returns
returns c =
    let b = book_of c.args.b.now in
    let x = body_of c.args.w in
    let l = list_of c.args.label in
    let d = c.requires.take_done in
    let e = c.new_row-row.ensures in
    let f = c.raise_own.ensures in
    let g = c.put_record.ensures in
    let settled = put-settled b x l d c.new_row-row.result e _ f _ g _ c.ready_of-before.ensures.0 in
    record {
      b_after = c.settle_book.ensures.b_after ∙ settled;
      result_value = c.stamp_parts.ensures ∙ ap stamp_of e;
    }
