-- `log_edit::slide_in` meets its contract. Assumes nothing.
use Rattle.log_edit.proofs.Slide.{slid}
use Rattle.log_edit.proofs.slide_in.Goals as goal

pub returns : goal.returns
returns c =
    slid c.args.i c.args.gap c.staying-n.result c.args.row.now c.args.r.now _ _
    c.requires.le_gap.0 c.requires.le_gap.1 c.told-row c.staying-n.ensures c.shift_up.ensures c.put_row.ensures
