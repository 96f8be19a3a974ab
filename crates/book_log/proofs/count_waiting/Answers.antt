-- `book_log::count_waiting` meets its contract. Assumes nothing.
use Rattle.std.proofs.Common.{rules, ◌≡◌, count_by}
use Rattle.std.proofs.iter.runs.Made.{chains}
use Rattle.std.proofs.lemmas.List.Sums.{count_by-le-length}
use Rattle.ledger.specs.Log.{waiting_in}
use Rattle.ledger.specs.Record.{is_waiting}
use Rattle.book_log.specs.Region.{record_at}
use Rattle.book_log.proofs.Rows.{count_rows}
use Rattle.book_log.proofs.count_waiting.Goals as goal

pub returns : goal.returns
unfolding waiting_in
returns c =
    let s = c.args in
    let n : c.count.result
    ≡ count_by (λ r. is_waiting s.known.now s.ready.now (record_at r)) s.rows.now = search (rules, chains) in
    (rw (count_rows (is_waiting s.known.now s.ready.now) s.rows.now) n, rw n (count_by-le-length _ s.rows.now))
