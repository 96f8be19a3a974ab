-- `arrivals::merge_new` meets its contract. The invariant: of the new records those of the first k are still to come.
-- Assumes nothing.
use Prim.Native.Nat.{◌≤◌}
use mathlib.Core.Path.{◌≡◌}
use lib.ListN.{length, take}
use Rattle.ledger.specs.Log.{unknowns}
use Rattle.log_edit.specs.Merging.{Merging}
use Rattle.message.specs.Message.{records_in}
use Rattle.arrivals.proofs.merge_new.Given as goal

abbrev pub invariant-loop-k : goal.invariant-loop-k
invariant-loop-k l = record {
  merging : Merging (unknowns l.known (records_in l.msg)) l.logged l.new l.initial.r
      (unknowns l.known (take l.k (records_in l.msg))) l.i l.gap l.r;
  left : l.gap ≡ length (unknowns l.known (take l.k (records_in l.msg)));
  fewer : l.gap ≤ l.new;
  within : l.i ≤ l.logged;
}
