-- `requests::write_tap` meets its contract. Assumes nothing.
use mathlib.Core.Path.{refl}
use Rattle.lists.specs.Part.{patch}
use Rattle.stamp.specs.Parts.{list_of}
use Rattle.wire.proofs.Returns.{failed, passed, broken, put}
use Rattle.wire.specs.Kinds.{tap_kind}
use Rattle.requests.proofs.write_tap.Goals as goal

pub returns-then-not-tap_fits : goal.returns-then-not-tap_fits
unfolding tap_kind
returns-then-not-tap_fits c = broken (tap_kind _) _ _ refl (failed c.tap_fits.ensures c.if-not-tap_fits.true-raw)

pub put_line-requires : goal.put_line-requires
put_line-requires c = rw c.tap_widths.ensures refl

pub returns : goal.returns
unfolding tap_kind list_of patch
returns c =
    put (tap_kind _) _ _ refl _ _ (passed c.tap_fits.ensures c.if-not-tap_fits.false-raw)
    (rw (c.tap_widths.ensures, c.put_parts.ensures, c.put_tap.ensures, c.from.ensures) at c.put_line.ensures)
