-- `arrivals::row_for` meets its contract. Assumes nothing.
use mathlib.Core.Path.{◌∙◌}
use Rattle.stamp.specs.Parts.{list_of}
use Rattle.arrivals.proofs.Turn.{part_inside, never_refused, tap-bits, record-read}
use Rattle.arrivals.proofs.row_for.Goals as goal

pub record_at-requires : goal.record_at-requires
record_at-requires c =
    part_inside c.args.msg.now c.args.n (list_of c.args.m) c.requires.head c.args.i c.requires.i_bound

pub returns-in_default : goal.returns-in_default
returns-in_default c =
    absurd (never_refused c.args.msg.now c.args.n (list_of c.args.m) c.requires.head c.args.i c.requires.i_bound _
    c.in_default.ensures)

pub pack-requires : goal.pack-requires
pack-requires c =
    tap-bits c.args.msg.now c.args.n (list_of c.args.m) c.requires.head c.args.i c.requires.i_bound _ _ _ _
    c.in-Ok.ensures

pub returns : goal.returns
returns c =
    c.make_row.ensures
    ∙ rw c.pack.ensures
    (record-read c.args.msg.now c.args.n (list_of c.args.m) c.requires.head c.args.i c.requires.i_bound _ _ _ _
    c.in-Ok.ensures)
