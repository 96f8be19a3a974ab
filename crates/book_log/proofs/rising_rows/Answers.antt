-- `book_log::rising_rows` meets its contract. Assumes nothing.
use Rattle.std.proofs.Common.{rules}
use Rattle.std.proofs.lemmas.List.Sorted.{answers_always}
use Rattle.book_log.proofs.Rows.{before, rising_rows}
use Rattle.book_log.proofs.rising_rows.Goals as goal

pub returns : goal.returns
returns c =
    rising_rows c.args.rows.now c.is_sorted_by.result
    (c.is_sorted_by.ensures.cases before (answers_always _ _ _ (λ f a r f' h. search (rules, h))))
