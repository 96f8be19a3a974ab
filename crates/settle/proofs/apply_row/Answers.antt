-- `settle::apply_row` meets its contract. Assumes nothing.
use mathlib.Core.Path.{sym, ap, ◌∙◌}
use Rattle.ledger.specs.Record.{Record}
use Rattle.lent.specs.Words.{book_of, words_of}
use Rattle.settle.specs.Moves.{added, is_newly_applied}
use Rattle.settle.proofs.Turn.{apply-off, apply-on}
use Rattle.settle.proofs.apply_row.Goals as goal

pub returns-then-not-is_newly_applied : goal.returns-then-not-is_newly_applied
returns-then-not-is_newly_applied c =
    let w = c.args in
    let e = ap (is_newly_applied w.before.now w.s.now) (sym c.log_row-row.ensures) ∙ sym c.is_newly_applied.ensures
    ∙ c.if-not-is_newly_applied.true in
    record {
      b_after = sym (ap words_of (apply-off w.before.now w.s.now _ (book_of w.b.now) e) ∙ c.requires.held.words);
      value = sym e;
    }

pub returns : goal.returns
returns c =
    let w = c.args in
    let same = c.log_row-row.ensures in
    let e = ap (is_newly_applied w.before.now w.s.now) (sym same) ∙ sym c.is_newly_applied.ensures
    ∙ c.if-not-is_newly_applied.false in
    record {
      b_after = c.apply_record.ensures ∙ ap (λ (r : Record). words_of (added r (book_of w.b.now))) same
          ∙ ap words_of (sym (apply-on w.before.now w.s.now _ (book_of w.b.now) e));
      value = sym e;
    }
