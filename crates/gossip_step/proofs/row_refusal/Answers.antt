-- `gossip_step::row_refusal` meets its contract. Assumes nothing.
use mathlib.Core.Path.{sym, ◌∙◌}
use borrow.Author.Tests.{not-true, not-false}
use Rattle.gossip_step.proofs.HeadLines.{row_old, row_crossed, row-newer}
use Rattle.gossip_step.proofs.row_refusal.Goals as goal

pub returns-then-at_most : goal.returns-then-at_most
returns-then-at_most c = row_old _ _ (sym c.at_most.ensures ∙ c.if-at_most.true)

pub returns-then-not-at_most : goal.returns-then-not-at_most
returns-then-not-at_most c =
    row_crossed _ _ (sym c.at_most.ensures ∙ c.if-at_most.false)
    (sym c.at_most-2.ensures ∙ not-true _ c.if-not-at_most.true-raw)

pub returns : goal.returns
returns c =
    row-newer _ _ (sym c.at_most.ensures ∙ c.if-at_most.false)
    (sym c.at_most-2.ensures ∙ not-false _ c.if-not-at_most.false-raw)
