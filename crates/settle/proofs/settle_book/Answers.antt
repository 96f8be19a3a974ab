-- `settle::settle_book` meets its contract. Assumes nothing.
use mathlib.Core.Path.{ap, ◌∙◌}
use lib.ListN.{length}
use Rattle.stamp.specs.Stamp.{Stamp}
use Rattle.ledger.specs.Log.{newly_applied}
use Rattle.lent.specs.Words.{book_of, words_of}
use Rattle.settle.specs.Moves.{apply_all}
use Rattle.settle.proofs.Turn.{applied-held, applied-me, shed-settled}
use Rattle.settle.proofs.settle_book.Goals as goal

pub drop_log-requires : goal.drop_log-requires
drop_log-requires c =
    let w = c.args in
    let ws = w.b.now in
    let now = c.ready_of-s.ensures.0 in
    let before = w.before.now in
    let e =
    c.apply_log-n.ensures.b_after ∙ ap (λ (x : Stamp). words_of (apply_all before x (book_of ws).log (book_of ws)))
    now in
    let y = c.requires.appliable in
    record {
      held = applied-held w.before.now ws y _ e;
      b_bound = applied-me w.before.now ws y _ e c.requires.b_bound;
    }

pub returns : goal.returns
returns c =
    let w = c.args in
    let ws = w.b.now in
    let now = c.ready_of-s.ensures.0 in
    let before = w.before.now in
    let e =
    c.apply_log-n.ensures.b_after ∙ ap (λ (x : Stamp). words_of (apply_all before x (book_of ws).log (book_of ws)))
    now in
    let number = ap (λ (x : Stamp). length (newly_applied w.before.now x (book_of ws).log)) now in
    let shed = shed-settled w.before.now ws c.requires.appliable _ e in
    record {
      b_after = c.drop_log.ensures ∙ shed;
      value = c.apply_log-n.ensures.value ∙ number;
    }
