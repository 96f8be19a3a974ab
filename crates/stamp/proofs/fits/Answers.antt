-- `stamp::fits` meets its contract: the three rules, in their order. Assumes nothing.
use mathlib.Core.Path.{sym, ◌∙◌}
use mathlib.Core.Bool.{and-true}
use borrow.Author.Tests.{eq-eqb, ne_eqb, not-true, not-false}
use Rattle.stamp.specs.Stamp.{stamp_fits}
use Rattle.stamp.proofs.fits.Goals as goal

pub returns-then-s-ne-PARTS : goal.returns-then-s-ne-PARTS
unfolding stamp_fits
returns-then-s-ne-PARTS c = simp (ne_eqb _ _ c.if-s-ne-PARTS.true)

pub returns-then-not-all_words : goal.returns-then-not-all_words
unfolding stamp_fits
returns-then-not-all_words c =
    let w = sym c.all_words.ensures ∙ not-true _ c.if-not-all_words.true-raw in
    simp (eq-eqb _ _ c.if-s-ne-PARTS.false, w)

pub returns : goal.returns
unfolding stamp_fits
returns c =
    let w = sym c.all_words.ensures ∙ not-false _ c.if-not-all_words.false-raw in
    c.zero_from.ensures ∙ simp (eq-eqb _ _ c.if-s-ne-PARTS.false, w, and-true)
