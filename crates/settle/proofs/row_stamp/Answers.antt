-- `settle::row_stamp` meets its contract. Assumes nothing.
use native.Mathlib.Omega.{arith}
use mathlib.Core.Path.{◌≡◌, ◌∙◌}
use lib.ListN.{take, drop}
use Rattle.limits.specs.Limits.{parts}
use Rattle.stamp.specs.Parts.{parts_at, list_of}
use Rattle.stamp.specs.PartsLaws.{list-parts}
use Rattle.ledger.specs.Record.{stamp_of}
use Rattle.settle.proofs.row_stamp.Goals as goal

pub returns : goal.returns
unfolding stamp_of
returns c =
    let e : list_of (parts_at 2 c.args.row.now)
    ≡ take parts (drop 2 c.args.row.now) = list-parts 2 c.args.row.now (omega arith) in
    c.replace_part.ensures ∙ rw (c.list_of-s.ensures, c.parts_at.ensures, e)
