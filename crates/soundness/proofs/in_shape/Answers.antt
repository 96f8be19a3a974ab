-- `soundness::in_shape` meets its contract. Assumes nothing.
use mathlib.Core.Path.{sym, subst, ◌∙◌}
use lib.Dec.{T}
use Rattle.lent.specs.Words.{book_long}
use Rattle.soundness.specs.SoundLaws.{shape-short, shape_is}
use Rattle.soundness.proofs.in_shape.Goals as goal

pub returns-then-b-ne-BOOK : goal.returns-then-b-ne-BOOK
unfolding book_long
returns-then-b-ne-BOOK c = sym (shape-short c.args.b.now c.if-b-ne-BOOK.true)

pub numbers_fit-requires : goal.numbers_fit-requires
unfolding book_long
numbers_fit-requires c = c.if-b-ne-BOOK.false

pub zeros_behind-requires : goal.zeros_behind-requires
unfolding book_long
zeros_behind-requires c =
    record { b_len = c.if-b-ne-BOOK.false; t = subst T (sym (sym c.numbers_fit.ensures ∙ c.if-numbers_fit.true)) tt }

pub returns-then-numbers_fit : goal.returns-then-numbers_fit
unfolding book_long
returns-then-numbers_fit c =
    c.zeros_behind.ensures
    ∙ sym (shape_is c.args.b.now c.if-b-ne-BOOK.false ∙ rw (sym c.numbers_fit.ensures ∙ c.if-numbers_fit.true))

pub returns-else-numbers_fit : goal.returns-else-numbers_fit
unfolding book_long
returns-else-numbers_fit c =
    c.if-numbers_fit.false
    ∙ sym (shape_is c.args.b.now c.if-b-ne-BOOK.false ∙ rw (sym c.numbers_fit.ensures ∙ c.if-numbers_fit.false))
