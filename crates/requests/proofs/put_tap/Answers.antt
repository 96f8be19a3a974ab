-- `requests::put_tap` meets its contract. Assumes nothing.
use native.Mathlib.Omega.{arith}
use lib.ListN.{length-set}
use Rattle.requests.proofs.Places.{five}
use Rattle.requests.proofs.put_tap.Goals as goal

pub bounds-line-at-2 : goal.bounds-line-at-2
bounds-line-at-2 c = simp length-set (omega arith)

pub bounds-line-at-3 : goal.bounds-line-at-3
bounds-line-at-3 c = simp length-set (omega arith)

pub bounds-line-at-4 : goal.bounds-line-at-4
bounds-line-at-4 c = simp length-set (omega arith)

pub bounds-line-at-5 : goal.bounds-line-at-5
bounds-line-at-5 c = simp length-set (omega arith)

pub returns : goal.returns
returns c = five _ _ _ _ _ c.args.at c.args.line.now c.requires
