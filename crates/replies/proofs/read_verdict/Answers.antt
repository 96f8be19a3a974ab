-- `replies::read_verdict` meets its contract. Assumes nothing.
use native.Mathlib.Omega.{arith}
use mathlib.Core.Path.{refl}
use Rattle.std.proofs.lemmas.Result.{err_from_is_err_and}
use Rattle.wire.specs.Kinds.{body_by, verdict_kind}
use Rattle.wire.specs.Read.{line_of}
use Rattle.wire.proofs.Returns.{failed, passed, line-told, line-refused, not-shaped, not-kept, kept}
use Rattle.replies.proofs.read_verdict.Goals as goal

pub read_line-requires : goal.read_line-requires
unfolding body_by
read_line-requires c =
    rw c.verdict_widths.ensures (omega arith, (omega arith, record { long = refl; some = omega arith; narrow = tt }))

pub returns-in_err-line : goal.returns-in_err-line
unfolding verdict_kind
returns-in_err-line c =
    let told = line-refused _ _ _ _ c.in_err-line.ensures in
    let p = err_from_is_err_and c.from_residual.result c.from_residual.ensures.1 in
    rw (p.1, p.2, told.1) (not-shaped verdict_kind _ told.0)

pub returns-then-not-verdict_fits : goal.returns-then-not-verdict_fits
unfolding verdict_kind line_of
returns-then-not-verdict_fits c =
    let told = line-told _ _ _ _ c.in_ok-line.ensures in
    not-kept verdict_kind _ _ told.0 (rw c.verdict_widths.ensures at told.1)
    (failed c.verdict_fits.ensures c.if-not-verdict_fits.true-raw)

pub returns : goal.returns
unfolding verdict_kind line_of
returns c =
    let told = line-told _ _ _ _ c.in_ok-line.ensures in
    rw c.parts_at.ensures
    (kept verdict_kind _ _ told.0 (rw c.verdict_widths.ensures at told.1)
    (passed c.verdict_fits.ensures c.if-not-verdict_fits.false-raw))
