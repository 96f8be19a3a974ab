-- `book_log::rows_of` meets its contract. Assumes nothing.
use Rattle.std.proofs.Common.{◌≡◌, ◌≤◌, ◌/◌, length, take, ap, ◌∙◌}
use Rattle.std.proofs.Math.Nat.{le-div_iff_mul-le}
use Rattle.lists.specs.RowLaws.{length-rows}
use Rattle.lists.specs.Rows.{rows}
use Rattle.lists.specs.RowLaws.{taken_chunks}
use Rattle.book_log.proofs.rows_of.Goals as goal

pub returns : goal.returns
returns g c =
    let s = c.args in
    let few : s.count ≤ length s.words.now / g.row.N =
    (le-div_iff_mul-le c.requires.0).1 c.requires.1 in
    let same : take s.count c.as_chunks.result.0.now ≡ rows g.row.N s.count s.words.now =
    rw c.as_chunks.ensures.front (taken_chunks g.row.N s.count (length s.words.now / g.row.N) s.words.now few) in
    (same, ap length same ∙ length-rows g.row.N s.count s.words.now)
