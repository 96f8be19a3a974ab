-- `requests::read_record` meets its contract. Assumes nothing.
use mathlib.Core.Path.{refl}
use native.Mathlib.Omega.{arith}
use Rattle.std.proofs.lemmas.Result.{err_from_is_err_and}
use Rattle.stamp.specs.Parts.{list_of, parts_at}
use Rattle.wire.specs.Kinds.{body_by, record_kind}
use Rattle.wire.specs.Read.{line_of}
use Rattle.wire.proofs.Returns.{failed, passed, line-told, line-refused, not-shaped, not-kept, kept}
use Rattle.requests.proofs.read_record.Goals as goal

pub read_line-requires : goal.read_line-requires
unfolding body_by
read_line-requires c =
    rw c.record_widths.ensures (omega arith, (omega arith, record { long = refl; some = omega arith; narrow = tt }))

pub returns-in_err-line : goal.returns-in_err-line
unfolding record_kind
returns-in_err-line c =
    let told = line-refused _ _ _ _ c.in_err-line.ensures in
    let p = err_from_is_err_and c.from_residual.result c.from_residual.ensures.1 in
    rw (p.1, p.2, told.1) (not-shaped (record_kind _ _) _ told.0)

pub returns-then-not-record_fits : goal.returns-then-not-record_fits
unfolding record_kind line_of parts_at list_of
returns-then-not-record_fits c =
    let told = line-told _ _ _ _ c.in_ok-line.ensures in
    not-kept (record_kind _ _) _ _ told.0 (rw c.record_widths.ensures at told.1)
    (rw (c.parts_at.ensures, c.tap_at.ensures) at (failed c.record_fits.ensures c.if-not-record_fits.true-raw))

pub returns : goal.returns
unfolding record_kind line_of parts_at list_of
returns c =
    let told = line-told _ _ _ _ c.in_ok-line.ensures in
    rw (c.parts_at.ensures, c.tap_at.ensures)
    (kept (record_kind _ _) _ _ told.0 (rw c.record_widths.ensures at told.1)
    (rw (c.parts_at.ensures, c.tap_at.ensures) at (passed c.record_fits.ensures c.if-not-record_fits.false-raw)))
