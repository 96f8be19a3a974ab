-- `wire::is_kind` meets its contract. Assumes nothing.
use Rattle.std.proofs.lemmas.List.{length-drop, take_rest}
use Rattle.wire.proofs.Shape.{empty, another, settled}
use Rattle.wire.proofs.is_kind.Goals as goal

pub returns-in-empty : goal.returns-in-empty
returns-in-empty c = empty c.args.kind c.args.msg.now c.in-empty.len_below

pub returns-then-first-kind : goal.returns-then-first-kind
returns-then-first-kind c =
    let msg = c.args.msg.now in
    rw (c.eq.ensures, c.body_of.ensures, take_rest msg 1, length-drop 1 msg)
    (settled c.args.kind msg _ c.in-len1-up.len_at_least c.if-first-kind.true)

pub returns-else-first-kind : goal.returns-else-first-kind
returns-else-first-kind c = another c.args.kind c.args.msg.now c.if-first-kind.false
