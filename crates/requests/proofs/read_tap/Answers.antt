-- `requests::read_tap` meets its contract. Assumes nothing.
use mathlib.Core.Path.{refl}
use native.Mathlib.Omega.{arith}
use Rattle.std.proofs.lemmas.Result.{err_from_is_err_and}
use Rattle.stamp.specs.Parts.{list_of, parts_at}
use Rattle.wire.specs.Kinds.{body_by, tap_kind}
use Rattle.wire.specs.Read.{line_of}
use Rattle.wire.proofs.Returns.{failed, passed, line-told, line-refused, not-shaped, not-kept, kept}
use Rattle.requests.proofs.read_tap.Goals as goal

pub read_line-requires : goal.read_line-requires
unfolding body_by
read_line-requires c =
    rw c.tap_widths.ensures (omega arith, (omega arith, record { long = refl; some = omega arith; narrow = tt }))

pub returns-in_err-line : goal.returns-in_err-line
unfolding tap_kind
returns-in_err-line c =
    let told = line-refused _ _ _ _ c.in_err-line.ensures in
    let p = err_from_is_err_and c.from_residual.result c.from_residual.ensures.1 in
    rw (p.1, p.2, told.1) (not-shaped (tap_kind _) _ told.0)

pub returns-then-not-tap_fits : goal.returns-then-not-tap_fits
unfolding tap_kind line_of parts_at list_of
returns-then-not-tap_fits c =
    let told = line-told _ _ _ _ c.in_ok-line.ensures in
    not-kept (tap_kind _) _ _ told.0 (rw c.tap_widths.ensures at told.1)
    (rw (c.tap_at.ensures, c.parts_at.ensures) at (failed c.tap_fits.ensures c.if-not-tap_fits.true-raw))

pub returns : goal.returns
unfolding tap_kind line_of parts_at list_of
returns c =
    let told = line-told _ _ _ _ c.in_ok-line.ensures in
    rw (c.tap_at.ensures, c.parts_at.ensures)
    (kept (tap_kind _) _ _ told.0 (rw c.tap_widths.ensures at told.1)
    (rw (c.tap_at.ensures, c.parts_at.ensures) at (passed c.tap_fits.ensures c.if-not-tap_fits.false-raw)))
