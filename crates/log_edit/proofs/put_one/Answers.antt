-- `log_edit::put_one` meets its contract. Assumes nothing.
use native.Mathlib.Omega.{arith}
use Rattle.log_edit.specs.Merging.{merging_start, merging-turn, merging-end}
use Rattle.log_edit.proofs.put_one.Goals as goal

pub returns : goal.returns
returns c =
    merging-end (merging-turn (merging_start _ c.args.count 1 c.args.r.now c.requires.fresh)
    c.told-row
    c.slide_in.ensures) (omega arith)
