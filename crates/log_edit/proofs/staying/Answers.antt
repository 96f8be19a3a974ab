-- `log_edit::staying` meets its contract: the rows rise, so those that do not stand after the row are the first.
-- Assumes nothing.
use native.Mathlib.Omega.{arith}
use Prim.Native.Nat.{ℕ, ◌≤◌, ◌<◌}
use mathlib.Core.Path.{◌≡◌, sym, ap, subst, ◌∙◌}
use mathlib.Core.List.{[]}
use lib.ListN.{length}
use borrow.Author.Tests.{not-true, not-false}
use Rattle.std.proofs.Common.{rules}
use Rattle.std.proofs.lemmas.List.Sorted.{IsPartitionPoint-from_clause}
use Rattle.std.specs.List.Sorted.{IsPartitionedBy}
use Rattle.book_log.specs.Walk.{row_lent}
use Rattle.log_edit.proofs.Slide.{after_row, stays, partitioned, parted_at}
use Rattle.log_edit.proofs.staying.Goals as goal

pub returns : goal.returns
returns c =
    let s = c.args in
    let rows = c.rows_of.result.now in
    let n = c.partition_point.result in
    let test = after_row s.row.now s.r.now s.i in
    let keeps = stays s.row.now s.r.now s.i in
    let point = IsPartitionPoint-from_clause keeps rows n c.partition_point.ensures.partitioned
    (subst (IsPartitionedBy keeps) (sym c.rows_of.ensures.0) (partitioned s.row.now s.r.now s.i c.requires.t))
    (λ a r f' h. (search (rules, h), search (rules, h))) in
    let within : n ≤ length rows = c.partition_point.ensures.bound in
    let long : length rows ≡ s.i = c.rows_of.ensures.1 in
    let here = λ (k : ℕ) (l : k < s.i). ap test (sym (row_lent rows s.i s.r.now k c.rows_of.ensures.0 l)) in
    parted_at s.row.now s.r.now s.i n (omega arith)
    (λ k h. here k (omega arith) ∙ not-true _ (point.0 k [] (omega arith) h))
    (λ k l h. here k h ∙ not-false _ (point.1 k [] l (omega arith)))
