-- `requests::record_fits` meets its contract. Assumes nothing.
use Rattle.stamp.specs.Parts.{list_of, parts_at}
use Rattle.wire.specs.Kinds.{record_kind}
use Rattle.wire.proofs.Returns.{failed, passed}
use Rattle.requests.proofs.Rules.{rules-left}
use Rattle.requests.proofs.record_fits.Goals as goal

pub returns-then-not-fits : goal.returns-then-not-fits
unfolding record_kind parts_at list_of
returns-then-not-fits c = rw (failed c.fits.ensures c.if-not-fits.true-raw)

pub returns-then-not-label_fits : goal.returns-then-not-label_fits
returns-then-not-label_fits c =
    let s = c.args in
    let f = failed c.label_fits.ensures c.if-not-label_fits.true-raw in
    let e = rw c.list_of-label.ensures at f in
    rw (
      rules-left s.n s.entry.origin s.entry.number s.entry.label s.m s.entry.tap
          (passed c.fits.ensures c.if-not-fits.false-raw),
      e,
    )

pub returns : goal.returns
returns c =
    let s = c.args in
    let f = passed c.label_fits.ensures c.if-not-label_fits.false-raw in
    let e = rw c.list_of-label.ensures at f in
    rw (
      rules-left s.n s.entry.origin s.entry.number s.entry.label s.m s.entry.tap
          (passed c.fits.ensures c.if-not-fits.false-raw),
      e,
      c.part_of.ensures,
    )
