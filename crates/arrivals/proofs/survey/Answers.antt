-- `arrivals::survey` meets its contract. Assumes nothing.
use Prim.Native.Nat.{◌≤◌, ◌<◌}
use native.Mathlib.Omega.{arith}
use mathlib.Core.Path.{sym, ap, ◌∙◌}
use mathlib.Core.Bool.{not}
use Rattle.lists.specs.TestLaws.{bit, bit_le}
use Rattle.book_log.specs.Region.{record_at}
use Rattle.wire.specs.Head.{count_in}
use Rattle.book_log.proofs.Rows.{byte_bit}
use Rattle.arrivals.proofs.Turn.{climb-more, new-more, climb-end, new-end}
use Rattle.arrivals.proofs.survey.Goals as goal

pub loop-i-preserved : goal.loop-i-preserved
loop-i-preserved c =
    let s = c.args in
    let i = c.loop-i.i in
    let e = c.row_for-row.ensures in
    let within : i < count_in s.msg.now = omega (arith, c.requires.msg_value) in
    let b = c.from-new.ensures ∙ byte_bit _ in (
      omega (arith, b, bit_le (not c.is_known.result)),
      rw c.climb_row.ensures.0
          (c.loop-i.invariant.1 ∙ climb-more s.msg.now c.requires.head.formed i within
          (record_at c.row_for-row.result) e
          c.loop-i.reached),
      c.loop-i.invariant.2 ∙ new-more s.msg.now c.requires.head.formed i within
          (record_at c.row_for-row.result) e s.known.now
          c.loop-i.new c.from-new.result (b ∙ ap (λ k. bit (not k)) c.is_known.ensures),
      c.climb_row.ensures.1 ∙ c.loop-i.invariant.3,
    )

pub returns : goal.returns
returns c =
    let s = c.args in
    let past : count_in s.msg.now ≤ c.loop-i.i = omega (arith, c.requires.msg_value, c.loop-i-test.false) in
    record {
      reached_after =
          (sym (c.loop-i.invariant.1 ∙ climb-end s.msg.now c.loop-i.i past c.loop-i.reached), c.loop-i.invariant.3);
      value = (sym (c.loop-i.invariant.2 ∙ new-end s.msg.now c.loop-i.i past s.known.now c.loop-i.new), omega arith);
    }
