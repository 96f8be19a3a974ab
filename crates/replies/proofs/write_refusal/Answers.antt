-- `replies::write_refusal` meets its contract. Assumes nothing.
use mathlib.Core.Path.{refl}
use Rattle.wire.proofs.Returns.{failed, passed, broken, put}
use Rattle.wire.specs.Kinds.{refusal_kind}
use Rattle.replies.proofs.write_refusal.Goals as goal

pub returns-then-not-in_table : goal.returns-then-not-in_table
unfolding refusal_kind
returns-then-not-in_table c = broken refusal_kind _ _ refl (failed c.in_table.ensures c.if-not-in_table.true-raw)

pub returns : goal.returns
unfolding refusal_kind
returns c = put refusal_kind _ _ refl _ _ (passed c.in_table.ensures c.if-not-in_table.false-raw)
    (rw c.from.ensures at c.put_line.ensures)
