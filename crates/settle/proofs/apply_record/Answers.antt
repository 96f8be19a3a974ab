-- `settle::apply_record` meets its contract. Assumes nothing.
use mathlib.Core.Path.{sym, ap, subst, ◌∙◌}
use mathlib.Core.List.{[], ◌∷◌}
use Rattle.stamp.specs.Stamp.{Stamp, merge}
use Rattle.tally.specs.Tap.{tap_of}
use Rattle.book_log.specs.Region.{record_at}
use Rattle.meaning.specs.Book.{Book}
use Rattle.lent.specs.Held.{held_is, book_is}
use Rattle.lent.specs.With.{with_value}
use Rattle.lent.specs.Words.{book_of, words_of}
use Rattle.settle.specs.Moves.{count_taps}
use Rattle.settle.specs.Ready.{Countable}
use Rattle.settle.proofs.Turn.{stamp-whole, merged-shape, merged-countable, added_tap}
use Rattle.settle.proofs.apply_record.Goals as goal

pub count_tap-requires : goal.count_tap-requires
count_tap-requires c =
    let ws = c.args.b.now in
    let r = record_at c.args.row.now in
    let o = stamp-whole c.args.row.now c.told-row c.requires.origin in
    let shape = merged-shape ws c.requires.held r o in
    let e = c.merge_value.ensures
    ∙ ap (λ (x : Stamp). words_of (with_value (merge x (book_of ws).value) (book_of ws))) c.row_stamp-s.ensures in
    record {
      held = held_is _ _ shape e;
      countable = subst (Countable r.body) (sym (book_is _ _ shape e))
          (merged-countable ws c.requires.held r o c.requires.countable);
    }

pub returns : goal.returns
returns c =
    let ws = c.args.b.now in
    let r = record_at c.args.row.now in
    let o = stamp-whole c.args.row.now c.told-row c.requires.origin in
    let e = c.merge_value.ensures
    ∙ ap (λ (x : Stamp). words_of (with_value (merge x (book_of ws).value) (book_of ws))) c.row_stamp-s.ensures in
    let same = book_is _ _ (merged-shape ws c.requires.held r o) e in
    c.count_tap.ensures ∙ ap (λ (b : Book). words_of (count_taps (tap_of r.body ∷ []) b)) same
    ∙ ap words_of (added_tap ws c.requires.held r o)
