-- `soundness::sound` meets its contract: what is tested is what soundness says. Assumes nothing.
use native.Mathlib.Omega.{arith}
use mathlib.Core.Path.{sym, subst, ◌∙◌}
use lib.Dec.{T}
use Rattle.lent.specs.Words.{book_long}
use Rattle.lent.specs.WordsLaws.{shape-long}
use Rattle.soundness.specs.SoundLaws.{lawful_misshapen, lawful_stray, lawful-words}
use Rattle.soundness.proofs.Shape.{range_read, numbers_of}
use Rattle.soundness.proofs.sound.Goals as goal

pub returns-then-not-in_shape : goal.returns-then-not-in_shape
returns-then-not-in_shape c = sym (lawful_misshapen c.args.b.now (sym c.in_shape.ensures ∙ c.if-not-in_shape.true))

pub bounds-b-0 : goal.bounds-b-0
unfolding book_long
bounds-b-0 c =
    omega (arith, shape-long c.args.b.now (subst T (sym (sym c.in_shape.ensures ∙ c.if-not-in_shape.false)) tt))

pub bounds-b-1 : goal.bounds-b-1
unfolding book_long
bounds-b-1 c =
    omega (arith, shape-long c.args.b.now (subst T (sym (sym c.in_shape.ensures ∙ c.if-not-in_shape.false)) tt))

pub words_sound-requires : goal.words_sound-requires
words_sound-requires c =
    let shape = sym c.in_shape.ensures ∙ c.if-not-in_shape.false in
    record {
      b_len = shape-long c.args.b.now (subst T (sym shape) tt);
      numbers = numbers_of c.args.b.now shape (sym c.in_range.ensures ∙ c.if-in_range.true);
    }

pub returns-then-in_range : goal.returns-then-in_range
returns-then-in_range c =
    let ws = c.args.b.now in
    c.words_sound.ensures
    ∙ sym (lawful-words ws (sym c.in_shape.ensures ∙ c.if-not-in_shape.false)
    (range_read ws ∙ sym c.in_range.ensures ∙ c.if-in_range.true))

pub returns-else-in_range : goal.returns-else-in_range
returns-else-in_range c =
    c.if-in_range.false
    ∙ sym (lawful_stray c.args.b.now (range_read c.args.b.now ∙ sym c.in_range.ensures ∙ c.if-in_range.false))
