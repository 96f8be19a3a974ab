-- `replies::read_already` meets its contract. Assumes nothing.
use mathlib.Core.Path.{refl, ap, ◌∙◌}
use native.Mathlib.Omega.{arith}
use Rattle.std.specs.Prelude.{Ok}
use Rattle.wire.specs.Says as said
use Rattle.std.proofs.lemmas.Result.{err_from_is_err_and}
use Rattle.wire.specs.Kinds.{body_by, already_kind}
use Rattle.wire.specs.Read.{line_of}
use Rattle.wire.proofs.Returns.{line-told, line-refused, not-shaped, kept}
use Rattle.replies.proofs.read_already.Goals as goal

pub read_line-requires : goal.read_line-requires
unfolding body_by
read_line-requires c =
    rw c.stamp_widths.ensures (omega arith, (omega arith, record { long = refl; some = omega arith; narrow = tt }))

pub returns-in_err-line : goal.returns-in_err-line
unfolding already_kind
returns-in_err-line c =
    let told = line-refused _ _ _ _ c.in_err-line.ensures in
    let p = err_from_is_err_and c.from_residual.result c.from_residual.ensures.1 in
    rw (p.1, p.2, told.1) (not-shaped already_kind _ told.0)

pub returns : goal.returns
unfolding already_kind line_of
returns c =
    let told = line-told _ _ _ _ c.in_ok-line.ensures in
    ap (λ s. Ok (said.Already s)) c.parts_at.ensures
    ∙ kept already_kind _ _ told.0 (rw c.stamp_widths.ensures at told.1) refl
