-- `lent::low_of` meets its contract. Assumes nothing.
use native.Mathlib.Omega.{arith}
use mathlib.Core.Path.{ap₂, ◌∙◌}
use Rattle.limits.specs.Limits.{parts}
use Rattle.lists.specs.Rows.{rows}
use Rattle.book_log.specs.Lowest.{lowest_from}
use Rattle.lent.specs.Changes.{rows_are}
use Rattle.lent.specs.Held.{held-long}
use Rattle.lent.specs.Words.{size}
use Rattle.lent.proofs.low_of.Goals as goal

pub table_words-requires : goal.table_words-requires
table_words-requires c =
    held-long c.args.b.now c.requires.held

pub rows_of-rows-requires : goal.rows_of-rows-requires
unfolding size
rows_of-rows-requires c = (omega arith, omega (arith, c.screens_of.ensures, c.table_words.ensures.1))

pub returns : goal.returns
returns c =
    let t = c.rows_of-rows.ensures.0 ∙ ap₂ (rows parts) c.screens_of.ensures.0 c.table_words.ensures.0
    ∙ rows_are c.args.b.now c.requires.held in
    c.lowest.ensures ∙ ap₂ lowest_from c.known_of.ensures.0 t
