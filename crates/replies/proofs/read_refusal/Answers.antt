-- `replies::read_refusal` meets its contract. Assumes nothing.
use native.Mathlib.Omega.{arith}
use mathlib.Core.Path.{refl}
use Rattle.std.proofs.lemmas.Result.{err_from_is_err_and}
use Rattle.wire.specs.Kinds.{body_by, refusal_kind}
use Rattle.wire.specs.Read.{line_of}
use Rattle.wire.proofs.Returns.{failed, passed, line-told, line-refused, not-shaped, not-kept, kept}
use Rattle.replies.proofs.read_refusal.Goals as goal

pub read_line-requires : goal.read_line-requires
unfolding body_by
read_line-requires c = (omega arith, (omega arith, record { long = refl; some = omega arith; narrow = tt }))

pub returns-in_err-line : goal.returns-in_err-line
unfolding refusal_kind
returns-in_err-line c =
    let told = line-refused _ _ _ _ c.in_err-line.ensures in
    let p = err_from_is_err_and c.from_residual.result c.from_residual.ensures.1 in
    rw (p.1, p.2, told.1) (not-shaped refusal_kind _ told.0)

pub returns-then-not-in_table : goal.returns-then-not-in_table
unfolding refusal_kind line_of
returns-then-not-in_table c =
    let told = line-told _ _ _ _ c.in_ok-line.ensures in
    not-kept refusal_kind _ _ told.0 told.1 (failed c.in_table.ensures c.if-not-in_table.true-raw)

pub returns : goal.returns
unfolding refusal_kind line_of
returns c =
    let told = line-told _ _ _ _ c.in_ok-line.ensures in
    kept refusal_kind _ _ told.0 told.1 (passed c.in_table.ensures c.if-not-in_table.false-raw)
