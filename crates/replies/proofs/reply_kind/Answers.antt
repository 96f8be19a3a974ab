-- `replies::reply_kind` meets its contract: each reader's answer settles whether the bytes are of its kind. Assumes
-- nothing.
use Rattle.wire.specs.Kinds.{taken_kind, already_kind, verdict_kind, wait_kind, refusal_kind, gossip_taken_kind}
use Rattle.wire.specs.Says as said
use Rattle.wire.specs.Says.{verdict_says, gossip_taken_says}
use Rattle.replies.specs.Which.{kind_among, reply_kind}
use Rattle.replies.specs.WhichLaws.{settled}
use Rattle.replies.proofs.reply_kind.Goals as goal

pub returns-then-is_ok : goal.returns-then-is_ok
unfolding reply_kind kind_among taken_kind
returns-then-is_ok c =
    rw (settled taken_kind _ said.Taken _ c.read_taken.ensures c.is_ok.ensures.value c.if-is_ok.true)

pub returns-then-is_ok-2 : goal.returns-then-is_ok-2
unfolding reply_kind kind_among already_kind
returns-then-is_ok-2 c =
    rw (
      settled taken_kind _ said.Taken _ c.read_taken.ensures c.is_ok.ensures.value c.if-is_ok.false,
      settled already_kind _ said.Already _ c.read_already.ensures c.is_ok-2.ensures.value c.if-is_ok-2.true,
    )

pub returns-then-is_ok-3 : goal.returns-then-is_ok-3
unfolding reply_kind kind_among verdict_kind
returns-then-is_ok-3 c =
    rw (
      settled taken_kind _ said.Taken _ c.read_taken.ensures c.is_ok.ensures.value c.if-is_ok.false,
      settled already_kind _ said.Already _ c.read_already.ensures c.is_ok-2.ensures.value c.if-is_ok-2.false,
      settled verdict_kind _ verdict_says _ c.read_verdict.ensures c.is_ok-3.ensures.value c.if-is_ok-3.true,
    )

pub returns-then-is_ok-4 : goal.returns-then-is_ok-4
unfolding reply_kind kind_among wait_kind
returns-then-is_ok-4 c =
    rw (
      settled taken_kind _ said.Taken _ c.read_taken.ensures c.is_ok.ensures.value c.if-is_ok.false,
      settled already_kind _ said.Already _ c.read_already.ensures c.is_ok-2.ensures.value c.if-is_ok-2.false,
      settled verdict_kind _ verdict_says _ c.read_verdict.ensures c.is_ok-3.ensures.value c.if-is_ok-3.false,
      settled wait_kind _ said.Wait _ c.read_wait.ensures c.is_ok-4.ensures.value c.if-is_ok-4.true,
    )

pub returns-then-is_ok-5 : goal.returns-then-is_ok-5
unfolding reply_kind kind_among refusal_kind
returns-then-is_ok-5 c =
    rw (
      settled taken_kind _ said.Taken _ c.read_taken.ensures c.is_ok.ensures.value c.if-is_ok.false,
      settled already_kind _ said.Already _ c.read_already.ensures c.is_ok-2.ensures.value c.if-is_ok-2.false,
      settled verdict_kind _ verdict_says _ c.read_verdict.ensures c.is_ok-3.ensures.value c.if-is_ok-3.false,
      settled wait_kind _ said.Wait _ c.read_wait.ensures c.is_ok-4.ensures.value c.if-is_ok-4.false,
      settled refusal_kind _ said.Refusal _ c.read_refusal.ensures c.is_ok-5.ensures.value c.if-is_ok-5.true,
    )

pub returns-then-is_ok-6 : goal.returns-then-is_ok-6
unfolding reply_kind kind_among gossip_taken_kind
returns-then-is_ok-6 c =
    rw (
      settled taken_kind _ said.Taken _ c.read_taken.ensures c.is_ok.ensures.value c.if-is_ok.false,
      settled already_kind _ said.Already _ c.read_already.ensures c.is_ok-2.ensures.value c.if-is_ok-2.false,
      settled verdict_kind _ verdict_says _ c.read_verdict.ensures c.is_ok-3.ensures.value c.if-is_ok-3.false,
      settled wait_kind _ said.Wait _ c.read_wait.ensures c.is_ok-4.ensures.value c.if-is_ok-4.false,
      settled refusal_kind _ said.Refusal _ c.read_refusal.ensures c.is_ok-5.ensures.value c.if-is_ok-5.false,
      settled gossip_taken_kind _ gossip_taken_says _ c.read_gossip_taken.ensures c.is_ok-6.ensures.value
          c.if-is_ok-6.true,
    )

pub returns : goal.returns
unfolding reply_kind kind_among
returns c =
    rw (
      settled taken_kind _ said.Taken _ c.read_taken.ensures c.is_ok.ensures.value c.if-is_ok.false,
      settled already_kind _ said.Already _ c.read_already.ensures c.is_ok-2.ensures.value c.if-is_ok-2.false,
      settled verdict_kind _ verdict_says _ c.read_verdict.ensures c.is_ok-3.ensures.value c.if-is_ok-3.false,
      settled wait_kind _ said.Wait _ c.read_wait.ensures c.is_ok-4.ensures.value c.if-is_ok-4.false,
      settled refusal_kind _ said.Refusal _ c.read_refusal.ensures c.is_ok-5.ensures.value c.if-is_ok-5.false,
      settled gossip_taken_kind _ gossip_taken_says _ c.read_gossip_taken.ensures c.is_ok-6.ensures.value
          c.if-is_ok-6.false,
    )
