-- `settle::count_tap` meets its contract. Assumes nothing.
use mathlib.Core.Path.{◌≡◌, sym, subst, ◌∙◌}
use mathlib.Core.Bool.{false}
use Rattle.tally.specs.Standing.{among}
use Rattle.tally.specs.Tap.{tap_of}
use Rattle.lent.specs.Changes.{Insertable}
use Rattle.lent.specs.Held.{held_is, book_is}
use Rattle.lent.specs.Words.{book_of}
use Rattle.settle.proofs.Turn.{count_had, noted-shape, noted_insertable, count-new}
use Rattle.settle.proofs.count_tap.Goals as goal

pub returns-then-is_counted : goal.returns-then-is_counted
returns-then-is_counted c =
    count_had c.args.b.now c.requires.held c.args.w (sym c.is_counted.ensures ∙ c.if-is_counted.true)

pub insert_tap-requires : goal.insert_tap-requires
insert_tap-requires c =
    let unheld : (let s = c.args in
    among (book_of s.b.now).counted (tap_of s.w) ≡ false) =
    sym c.is_counted.ensures ∙ c.if-is_counted.false in
    let ws = c.args.b.now in
    let shape = noted-shape ws c.requires.held c.args.w in
    let ready = noted_insertable ws c.requires.held c.args.w c.requires.countable (unheld) in
    record {
      held = held_is _ _ shape c.note_tap.ensures;
      insertable = subst (Insertable c.args.w) (sym (book_is _ _ shape c.note_tap.ensures)) ready;
    }

pub returns : goal.returns
returns c =
    let unheld : (let s = c.args in
    among (book_of s.b.now).counted (tap_of s.w) ≡ false) =
    sym c.is_counted.ensures ∙ c.if-is_counted.false in
    let ws = c.args.b.now in
    c.insert_tap.ensures ∙ count-new ws c.requires.held c.args.w _ (unheld)
    (book_is _ _ (noted-shape ws c.requires.held c.args.w) c.note_tap.ensures)
