-- `requests::put_tap_widths` meets its contract. Assumes nothing.
use native.Mathlib.Omega.{arith}
use lib.ListN.{length-set}
use Rattle.requests.proofs.Places.{five}
use Rattle.requests.proofs.put_tap_widths.Goals as goal

pub bounds-ws-at-2 : goal.bounds-ws-at-2
bounds-ws-at-2 c = simp length-set (omega arith)

pub bounds-ws-at-3 : goal.bounds-ws-at-3
bounds-ws-at-3 c = simp length-set (omega arith)

pub bounds-ws-at-4 : goal.bounds-ws-at-4
bounds-ws-at-4 c = simp length-set (omega arith)

pub bounds-ws-at-5 : goal.bounds-ws-at-5
bounds-ws-at-5 c = simp length-set (omega arith)

pub returns : goal.returns
returns c = five _ _ _ _ _ c.args.at c.args.ws.now c.requires
