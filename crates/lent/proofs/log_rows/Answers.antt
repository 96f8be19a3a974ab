-- `lent::log_rows` meets its contract. Assumes nothing.
use native.Mathlib.Omega.{arith}
use mathlib.Core.Path.{ap, ap₂, ◌∙◌}
use Rattle.book_log.specs.Region.{row_long, records_at, records_of}
use Rattle.lists.specs.Rows.{rows}
use Rattle.lent.specs.Changes.{log_is}
use Rattle.lent.specs.Held.{held-long}
use Rattle.lent.specs.Words.{size}
use Rattle.lent.proofs.log_rows.Goals as goal

pub log_words-requires : goal.log_words-requires
log_words-requires c = held-long c.args.b.now c.requires

pub rows_of-requires : goal.rows_of-requires
unfolding size
rows_of-requires c = (omega arith, omega (arith, c.logged_of.ensures, c.log_words.ensures.1))

pub returns : goal.returns
unfolding records_at
returns c = (
  ap records_of (c.rows_of.ensures.0 ∙ ap₂ (rows row_long) c.logged_of.ensures.0 c.log_words.ensures.0)
      ∙ log_is c.args.b.now c.requires,
  c.rows_of.ensures.1 ∙ c.logged_of.ensures.0,
)
