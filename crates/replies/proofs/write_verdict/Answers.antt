-- `replies::write_verdict` meets its contract. Assumes nothing.
use mathlib.Core.Path.{refl}
use Rattle.lists.specs.Part.{patch}
use Rattle.stamp.specs.Parts.{list_of}
use Rattle.wire.proofs.Returns.{failed, passed, broken, put}
use Rattle.wire.specs.Kinds.{verdict_kind}
use Rattle.replies.proofs.write_verdict.Goals as goal

pub returns-then-not-verdict_fits : goal.returns-then-not-verdict_fits
unfolding verdict_kind
returns-then-not-verdict_fits c = broken verdict_kind _ _ refl
    (failed c.verdict_fits.ensures c.if-not-verdict_fits.true-raw)

pub put_line-requires : goal.put_line-requires
put_line-requires c = rw c.verdict_widths.ensures refl

pub returns : goal.returns
unfolding verdict_kind list_of patch
returns c =
    put verdict_kind _ _ refl _ _ (passed c.verdict_fits.ensures c.if-not-verdict_fits.false-raw)
    (rw (c.verdict_widths.ensures, c.put_parts.ensures, c.from.ensures) at c.put_line.ensures)
