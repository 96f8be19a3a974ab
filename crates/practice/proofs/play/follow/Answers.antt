-- `practice::play::follow` meets its contract. Assumes nothing.
use Prim.Native.Nat.{◌+◌, ◌≤◌}
use native.Mathlib.Omega.{arith}
use mathlib.Core.Path.{sym, ap, ◌∙◌}
use lib.ListN.{length, length-drop}
use Rattle.std.proofs.Common.{length-take-le}
use borrow.Author.Rules.{rules}
use Rattle.std.proofs.lemmas.Result.{err_from_is_err_and}
use Rattle.program.proofs.TurnLaws.{say-within, last_within}
use Rattle.vectors.specs.CompareLaws.{to_end, compared-within}
use Rattle.practice.specs.PlayLaws.{never-reads, say-turn, last_turn_lem, stop-turn}
use Rattle.practice.proofs.play.follow.Goals as goal

pub slice_bounds-compare_at-end : goal.slice_bounds-compare_at-end
slice_bounds-compare_at-end c = (say-within _ _ _ _ _ _ _ _ c.next_turn.ensures _ _ c.in-Say.is).2

pub slice_bounds-compare_at-end-in-Say : goal.slice_bounds-compare_at-end-in-Say
slice_bounds-compare_at-end-in-Say c =
    sym (length-take-le _ _ (say-within _ _ _ _ _ _ _ _ c.next_turn.ensures _ _ c.in-Say.is).2)

pub returns-in_err-place-in-Say : goal.returns-in_err-place-in-Say
returns-in_err-place-in-Say c =
    let s = c.args in
    let l = c.loop-used in
    let p = err_from_is_err_and c.from_residual.result c.from_residual.ensures.1 in
    rw (p.1, p.2) (sym (l.invariant.4 ∙ say-turn l.book s.input.now l.out s.expected.now l.at l.place l.opened _ _ _
    c.next_turn.ensures _ _ c.in-Say.is _ c.in_err-place-in-Say.ensures))

pub overflow_add-at : goal.overflow_add-at
overflow_add-at c =
    let l = c.loop-used in
    let w = say-within _ _ _ _ _ _ _ _ c.next_turn.ensures _ _ c.in-Say.is in
    let long = ap length (to_end l.at c.args.input.now) in
    let input = c.args.input.now in
    let inside : l.at + c.in-Say.used ≤ length input =
    omega (arith, w.1, long, length-drop l.at input, l.invariant.0) in
    search rules

pub loop-used-smaller : goal.loop-used-smaller
loop-used-smaller c =
    let l = c.loop-used in
    let w = say-within _ _ _ _ _ _ _ _ c.next_turn.ensures _ _ c.in-Say.is in
    let long = ap length (to_end l.at c.args.input.now) in
    omega (arith, w.0, w.1, long, length-drop l.at c.args.input.now, l.invariant.0)

pub loop-used-preserved : goal.loop-used-preserved
loop-used-preserved c =
    let s = c.args in
    let l = c.loop-used in
    let w = say-within _ _ _ _ _ _ _ _ c.next_turn.ensures _ _ c.in-Say.is in
    let long = ap length (to_end l.at s.input.now) in
    let o = c.in_ok-place-in-Say.ensures in (
      omega (arith, w.1, long, length-drop l.at s.input.now, l.invariant.0),
      compared-within l.place _ _ s.expected.now l.invariant.1 (sym o),
      search rules,
      search rules,
      l.invariant.4 ∙ say-turn l.book s.input.now l.out s.expected.now l.at l.place l.opened _ _ _
          c.next_turn.ensures _ _ c.in-Say.is _ o,
    )

pub slice_bounds-compare_at-end-in-Last : goal.slice_bounds-compare_at-end-in-Last
slice_bounds-compare_at-end-in-Last c = last_within _ _ _ _ _ _ _ _ c.next_turn.ensures _ c.in-Last.is

pub slice_bounds-compare_at-end-in-Last-2 : goal.slice_bounds-compare_at-end-in-Last-2
slice_bounds-compare_at-end-in-Last-2 c =
    sym (length-take-le _ _ (last_within _ _ _ _ _ _ _ _ c.next_turn.ensures _ c.in-Last.is))

pub returns-in-Last : goal.returns-in-Last
returns-in-Last c =
    let s = c.args in
    let l = c.loop-used in
    c.compare_at-in-Last.ensures ∙ sym (l.invariant.4 ∙ last_turn_lem l.book s.input.now l.out s.expected.now
    l.at l.place l.opened _ _ _ c.next_turn.ensures _ c.in-Last.is)

pub returns-in-Stop : goal.returns-in-Stop
returns-in-Stop c =
    let s = c.args in
    let l = c.loop-used in
    sym (l.invariant.4 ∙ stop-turn l.book s.input.now l.out s.expected.now l.at l.place l.opened _ _ _
    c.next_turn.ensures c.in-Stop.is)

pub returns-in-Read : goal.returns-in-Read
returns-in-Read c =
    let s = c.args in
    let l = c.loop-used in
    absurd (never-reads l.book s.input.now l.out s.expected.now l.at l.place l.opened _ _ _ c.next_turn.ensures _
    c.in-Read.is)
