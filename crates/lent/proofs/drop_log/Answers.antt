-- `lent::drop_log` meets its contract. Assumes nothing.
use Prim.Native.Nat.{ℕ}
use native.Mathlib.Omega.{arith}
use mathlib.Core.Path.{ap, ◌∙◌}
use mathlib.Core.List.{List}
use lib.ListN.{length, set}
use Rattle.lists.specs.Part.{patch}
use Rattle.log_edit.specs.Merge.{stayers, dropped}
use Rattle.book_log.specs.Region.{records_at}
use Rattle.lent.specs.Changes.{log-dropped}
use Rattle.lent.specs.Held.{held-long, piece-within}
use Rattle.lent.specs.Words.{Logged, Log, size, from, piece}
use borrow.Author.Rules.{rules}
use Rattle.lent.proofs.drop_log.Goals as goal

pub drop_at-n-requires : goal.drop_at-n-requires
unfolding from size
drop_at-n-requires c =
    let ws = c.args.b.now in
    (omega arith, omega (arith, piece-within ws c.requires.held Log), omega (arith, c.logged_of-count.ensures.1))

pub set_logged-requires : goal.set_logged-requires
set_logged-requires c =
    let e = held-long c.args.b.now c.requires.held in
    search rules

pub returns : goal.returns
unfolding from size
returns c =
    let ws = c.args.b.now in
    let ready = c.ready_of-ready.result in
    let low = c.low_of-low.result in
    let kept = c.drop_at-n.result in
    let count = c.logged_of-count.ensures.0 in
    c.set_logged.ensures
    ∙ ap (λ (l : List ℕ). set l (from Logged) kept) c.drop_at-n.ensures.b_after
    ∙ ap (λ (k : ℕ). set (patch (from Log) (size Log) ws (dropped ready low k (piece Log ws))) (from Logged) kept) count
    ∙ log-dropped ws c.requires.held c.requires.b_bound ready low kept c.ready_of-ready.ensures.0 c.low_of-low.ensures
    (c.drop_at-n.ensures.value ∙ ap (λ (k : ℕ). length (stayers ready low (records_at k (piece Log ws)))) count)
