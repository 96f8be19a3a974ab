-- `lent::find_logged` meets its contract. Assumes nothing.
use mathlib.Core.Path.{sym, ap, ◌∙◌}
use Rattle.std.specs.Prelude.{position, eqb}
use Rattle.ledger.specs.Record.{Record}
use Rattle.book_log.proofs.Rows.{position_rows}
use Rattle.lent.proofs.find_logged.Goals as goal

pub returns : goal.returns
returns c =
    let test = λ (r : Record). eqb r.body c.args.w in
    c.find_body.ensures ∙ sym (position_rows test c.log_rows.result.now) ∙ ap (position test) c.log_rows.ensures.0
