-- `message::read_gossip` meets its contract. Assumes nothing.
use Prim.Native.Nat.{◌≤◌}
use native.Mathlib.Omega.{arith}
use Rattle.limits.specs.LimitLaws.{log-counts}
use Rattle.limits.specs.Limits.{log_room}
use Rattle.std.proofs.Common.{take}
use Rattle.std.proofs.lemmas.Result.{err_from_is_err_and}
use Rattle.wire.specs.Kinds.{head_kind, head_long}
use Rattle.wire.proofs.ReadLaws.{unread}
use Rattle.wire.proofs.Returns.{failed, passed}
use Rattle.message.proofs.Lines.{too_short, headless, wrong-long, disorder, whole, few}
use Rattle.message.proofs.read_gossip.Goals.{then-msg-n-via-then-msg-n}
use Rattle.message.proofs.read_gossip.Goals.{then-msg-n-via-else-msg-n+then-not-in_order}
use Rattle.message.proofs.read_gossip.Goals as goal

pub returns-then-msg-lt-HEAD_SIZE : goal.returns-then-msg-lt-HEAD_SIZE
returns-then-msg-lt-HEAD_SIZE c = too_short c.args.msg.now c.if-msg-lt-HEAD_SIZE.true

pub returns-in_err-head : goal.returns-in_err-head
returns-in_err-head c =
    let bytes = take head_long c.args.msg.now in
    let told = unread head_kind bytes _ c.in_err-head.ensures in
    let p = err_from_is_err_and c.from_residual.result c.from_residual.ensures.1 in
    rw (p.1, p.2, told.1) (headless c.args.msg.now told.0)

pub overflow_mul-n : goal.overflow_mul-n
overflow_mul-n c =
    let bounded : c.in_ok-head.head.count ≤ log_room =
    few c.args.msg.now _ _ _ _
    c.in_ok-head.ensures in
    omega (arith, bounded, log-counts)

pub overflow_add-n : goal.overflow_add-n
overflow_add-n c =
    let bounded : c.in_ok-head.head.count ≤ log_room =
    few c.args.msg.now _ _ _ _
    c.in_ok-head.ensures in
    omega (arith, bounded, log-counts)

pub returns-then-msg-n : goal.returns-then-msg-n
returns-then-msg-n c =
    let msg = c.args.msg.now in
    elim c.then-msg-n.branch [
      | then-msg-n-via-then-msg-n w ↦ wrong-long msg _ _ _ _ c.in_ok-head.ensures w.if-msg-n.true
      | then-msg-n-via-else-msg-n+then-not-in_order w ↦ disorder msg _ _ _ _ c.in_ok-head.ensures w.if-msg-n.false
          (failed w.in_order.ensures w.if-not-in_order.true-raw)
    ]

pub returns : goal.returns
returns c =
    let s = c.args in
    whole s.msg.now _ _ _ _ c.in_ok-head.ensures c.if-msg-n.false
    (passed c.in_order.ensures c.if-not-in_order.false-raw)
