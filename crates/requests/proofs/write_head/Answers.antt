-- `requests::write_head` meets its contract. Assumes nothing.
use mathlib.Core.Path.{refl}
use Rattle.lists.specs.Part.{patch}
use Rattle.stamp.specs.Parts.{list_of}
use Rattle.wire.proofs.Returns.{failed, passed, broken, put}
use Rattle.wire.specs.Kinds.{head_kind}
use Rattle.requests.proofs.write_head.Goals as goal

pub returns-then-not-head_fits : goal.returns-then-not-head_fits
unfolding head_kind
returns-then-not-head_fits c = broken head_kind _ _ refl (failed c.head_fits.ensures c.if-not-head_fits.true-raw)

pub put_line-requires : goal.put_line-requires
put_line-requires c = rw c.head_widths.ensures refl

pub returns : goal.returns
unfolding head_kind list_of patch
returns c =
    put head_kind _ _ refl _ _ (passed c.head_fits.ensures c.if-not-head_fits.false-raw)
    (rw (c.head_widths.ensures, c.put_parts.ensures, c.from.ensures) at c.put_line.ensures)
