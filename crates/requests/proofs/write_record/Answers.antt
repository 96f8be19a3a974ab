-- `requests::write_record` meets its contract. Assumes nothing.
use mathlib.Core.Path.{refl}
use Rattle.lists.specs.Part.{patch}
use Rattle.stamp.specs.Parts.{list_of}
use Rattle.wire.proofs.Returns.{failed, passed, broken, put}
use Rattle.wire.specs.Kinds.{record_kind}
use Rattle.requests.proofs.write_record.Goals as goal

pub returns-then-not-record_fits : goal.returns-then-not-record_fits
unfolding record_kind
returns-then-not-record_fits c = broken (record_kind _ _) _ _ refl
    (failed c.record_fits.ensures c.if-not-record_fits.true-raw)

pub put_line-requires : goal.put_line-requires
put_line-requires c = rw c.record_widths.ensures refl

pub returns : goal.returns
unfolding record_kind list_of patch
returns c =
    put (record_kind _ _) _ _ refl _ _ (passed c.record_fits.ensures c.if-not-record_fits.false-raw)
    (rw (c.record_widths.ensures, c.put_tap.ensures, c.put_parts.ensures, c.from.ensures) at
    c.put_line.ensures)
