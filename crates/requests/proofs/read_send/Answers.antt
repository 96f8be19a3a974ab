-- `requests::read_send` meets its contract. Assumes nothing.
use mathlib.Core.Path.{refl}
use Rattle.wire.specs.Kinds.{send_kind}
use Rattle.wire.specs.Read.{line_of}
use Rattle.wire.proofs.Returns.{failed, passed, not-shaped, kept}
use Rattle.requests.proofs.read_send.Goals as goal

pub returns-then-not-is_kind : goal.returns-then-not-is_kind
unfolding send_kind
returns-then-not-is_kind c = not-shaped send_kind _ (failed c.is_kind.ensures c.if-not-is_kind.true-raw)

pub returns : goal.returns
unfolding send_kind
returns c = let msg = c.args.msg.now in
    kept send_kind msg (line_of send_kind msg) (passed c.is_kind.ensures c.if-not-is_kind.false-raw) refl refl
