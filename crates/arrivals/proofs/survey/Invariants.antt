-- `arrivals::survey` meets its contract: what is counted and reached, and the records to come, give the whole. Assumes
-- nothing.
use Prim.Native.Nat.{◌+◌, ◌≤◌}
use mathlib.Core.Path.{◌≡◌}
use lib.ListN.{length, drop}
use Rattle.ledger.specs.Log.{unknowns}
use Rattle.book_log.specs.Held.{climb}
use Rattle.message.specs.Message.{records_in}
use Rattle.arrivals.proofs.survey.Given as goal

abbrev pub invariant-loop-i : goal.invariant-loop-i
invariant-loop-i l =
    (l.new ≤ l.i) × (climb l.initial.reached (records_in l.msg) ≡ climb l.reached (drop l.i (records_in l.msg)))
    × (length (unknowns l.known (records_in l.msg)) ≡ l.new + length (unknowns l.known (drop l.i (records_in l.msg))))
    × (length l.reached ≡ length l.initial.reached)
