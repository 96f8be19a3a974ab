-- `arrivals::merge_new` meets its contract. Assumes nothing.
use Prim.Native.Nat.{ℕ, ◌≤◌}
use native.Mathlib.Omega.{arith}
use mathlib.Core.Path.{◌≡◌, sym, ap, subst, ◌∙◌}
use mathlib.Core.List.{List, []}
use lib.ListN.{length}
use Rattle.ledger.specs.Log.{unknowns}
use Rattle.ledger.specs.Record.{Record}
use Rattle.book_log.specs.Region.{record_at, row_long}
use Rattle.log_edit.specs.Merging.{Merging, merging_start, merging-turn, merging-end}
use Rattle.message.specs.Message.{records_in}
use Rattle.wire.specs.Head.{count_in}
use Rattle.arrivals.proofs.Turn.{all_left, none_left, skip-known, last-new, last-left}
use borrow.Author.Rules.{rules}
use Rattle.arrivals.proofs.merge_new.Goals as goal

pub loop-k-init : goal.loop-k-init
loop-k-init c =
    let s = c.args in
    let new = unknowns s.known.now (records_in s.msg.now) in
    let e = all_left s.msg.now s.known.now s.count c.requires.msg_value in
    record {
      merging = subst (λ (rs : List Record). Merging new s.logged s.new s.r.now rs s.logged s.new s.r.now) (sym e)
          (merging_start new s.logged s.new s.r.now c.requires.fresh);
      left = c.requires.value.0 ∙ ap length (sym e);
      fewer = omega arith;
      within = omega arith;
    }

pub loop-k-preserved-then-is_known : goal.loop-k-preserved-then-is_known
loop-k-preserved-then-is_known c =
    let s = c.args in
    let l = c.loop-k in
    let few : l.k ≤ count_in s.msg.now = omega (arith, c.requires.msg_value) in
    let e = skip-known s.msg.now c.requires.head.formed l.k c.loop-k-test.true few (record_at c.row_for-row.result)
    c.row_for-row.ensures s.known.now (sym c.is_known.ensures ∙ c.if-is_known.true) in
    record {
      merging = subst (λ (rs : List Record). Merging (unknowns s.known.now (records_in s.msg.now)) s.logged s.new
          s.r.now rs l.i l.gap l.r) e l.invariant.merging;
      left = l.invariant.left ∙ ap length e;
      fewer = l.invariant.fewer;
      within = l.invariant.within;
    }

pub slide_in-i-requires : goal.slide_in-i-requires
slide_in-i-requires c =
    let s = c.args in
    let l = c.loop-k in
    let few : l.k ≤ count_in s.msg.now = omega (arith, c.requires.msg_value) in
    let one = last-left s.msg.now c.requires.head.formed l.k c.loop-k-test.true few (record_at c.row_for-row.result)
    c.row_for-row.ensures s.known.now (sym c.is_known.ensures ∙ c.if-is_known.false) in
    record {
      le_gap = (
        omega (arith, one, l.invariant.left),
        omega (arith, l.invariant.merging.long, l.invariant.fewer, l.invariant.within, c.requires.value.1),
      );
      t = l.invariant.merging.fresh.sorted;
    }

pub overflow_sub-gap : goal.overflow_sub-gap
overflow_sub-gap c =
    let s = c.args in
    let l = c.loop-k in
    let few : l.k ≤ count_in s.msg.now = omega (arith, c.requires.msg_value) in
    let one = last-left s.msg.now c.requires.head.formed l.k c.loop-k-test.true few (record_at c.row_for-row.result)
    c.row_for-row.ensures s.known.now (sym c.is_known.ensures ∙ c.if-is_known.false) in
    omega (arith, one, l.invariant.left)

pub loop-k-preserved : goal.loop-k-preserved
loop-k-preserved c =
    let s = c.args in
    let l = c.loop-k in
    let few : l.k ≤ count_in s.msg.now = omega (arith, c.requires.msg_value) in
    let new = sym c.is_known.ensures ∙ c.if-is_known.false in
    let came = last-new s.msg.now c.requires.head.formed l.k c.loop-k-test.true few (record_at c.row_for-row.result)
    c.row_for-row.ensures s.known.now new in
    let one = last-left s.msg.now c.requires.head.formed l.k c.loop-k-test.true few (record_at c.row_for-row.result)
    c.row_for-row.ensures s.known.now new in
    let m = subst (λ (rs : List Record). Merging (unknowns s.known.now (records_in s.msg.now)) s.logged s.new s.r.now rs
    l.i l.gap l.r) came l.invariant.merging in
    let long : length c.row_for-row.result ≡ row_long = search rules in
    let turned = merging-turn m long c.slide_in-i.ensures in
    record {
      merging = turned;
      left = omega (arith, one, l.invariant.left);
      fewer = omega (arith, l.invariant.fewer);
      within = turned.fewer;
    }

pub returns : goal.returns
returns c =
    let s = c.args in
    let l = c.loop-k in
    let new = unknowns s.known.now (records_in s.msg.now) in
    let e = none_left s.msg.now s.known.now l.k c.loop-k-test.false in
    let m = subst (λ (rs : List Record). Merging new s.logged s.new s.r.now rs l.i l.gap l.r) e l.invariant.merging in
    let z : l.gap ≡ 0 = l.invariant.left ∙ ap length e in
    merging-end (subst (λ (g : ℕ). Merging new s.logged s.new s.r.now [] l.i g l.r) z m)
    (omega (arith, l.invariant.merging.long, l.invariant.within, c.requires.value.1))
