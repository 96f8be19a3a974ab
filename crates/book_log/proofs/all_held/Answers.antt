-- `book_log::all_held` meets its contract: the climb from the lowest stamp passes the known one. Assumes nothing.
use Rattle.std.proofs.Common.{arith, sym, ◌∙◌}
use Rattle.book_log.specs.Region.{records_of}
use Rattle.book_log.proofs.HeldLaws.{climb-holds}
use Rattle.book_log.proofs.all_held.Goals as goal

pub returns : goal.returns
returns c =
    let s = c.args in
    c.first_at_most.ensures
    ∙ rw c.climb_rows.ensures
    (sym (climb-holds s.n s.low.now s.known.now (records_of s.rows.now) c.requires.rising_log (omega arith)))
