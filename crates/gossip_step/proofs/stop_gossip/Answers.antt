-- `gossip_step::stop_gossip` meets its contract. Assumes nothing.
use mathlib.Core.Path.{◌≡◌, sym, ap, subst, ◌∙◌}
use lib.Dec.{T}
use Rattle.stamp.specs.Parts.{list_of}
use Rattle.stamp.specs.Stamp.{Stamp, stamp_fits}
use native.Mathlib.Omega.{arith}
use Rattle.lent.specs.Words.{book_of}
use Rattle.std.proofs.lemmas.Result.{err_from_is_err_and}
use Rattle.wire.specs.Refusal.{table_number, number_pos}
use Rattle.gossip_step.specs.Refusals.{stamp_refusal}
use Rattle.gossip_step.proofs.Message.{sender_in_lem, stamp_in_lem}
use Rattle.gossip_step.proofs.Lines.{stamp-refused}
use Rattle.gossip_step.proofs.stop_gossip.Goals as goal

pub stamp_refusal-requires : goal.stamp_refusal-requires
stamp_refusal-requires c =
    let w = c.args in
    let h = c.requires.heard in
    record {
      sound = c.requires.sound;
      sender_fits = (
        sender_in_lem w.msg.now w.head.sender w.head.screens w.head.count (list_of w.head.stamp) h,
        subst (λ (x : Stamp). T (stamp_fits w.head.screens x)) (sym c.list_of-s.ensures)
            (stamp_in_lem w.msg.now w.head.sender w.head.screens w.head.count (list_of w.head.stamp) h),
      );
    }

pub returns-in_err-stamp_refusal : goal.returns-in_err-stamp_refusal
returns-in_err-stamp_refusal c =
    let w = c.args in
    let r = c.in_err-stamp_refusal.field-0.0 in
    let told : table_number r
    ≡ stamp_refusal (book_of w.b.now) w.head.sender w.head.screens c.list_of-s.result =
    c.in_err-stamp_refusal.ensures in
    let e = told
    ∙ ap (λ (x : Stamp). stamp_refusal (book_of w.b.now) w.head.sender w.head.screens x) c.list_of-s.ensures in
    let p = err_from_is_err_and c.from_residual.result c.from_residual.ensures.1 in
    rw (p.1, p.2)
    (stamp-refused w.b.now w.msg.now w.head.sender w.head.screens w.head.count (list_of w.head.stamp)
    c.requires.sound c.requires.heard _ e (λ z. omega (arith, z, number_pos r)))

pub stop_records-requires : goal.stop_records-requires
stop_records-requires c =
    let w = c.args in
    let told : 0 ≡ stamp_refusal (book_of w.b.now) w.head.sender w.head.screens c.list_of-s.result =
    c.in_ok-stamp_refusal.ensures in
    record {
      sound = c.requires.sound;
      heard = c.requires.heard;
      stamp_stands = sym (told
          ∙ ap (λ (x : Stamp). stamp_refusal (book_of w.b.now) w.head.sender w.head.screens x) c.list_of-s.ensures);
    }

pub returns : goal.returns
returns c = c.stop_records.ensures
