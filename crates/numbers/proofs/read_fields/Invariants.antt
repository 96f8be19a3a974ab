-- `numbers::read_fields` meets its contract: the numbers read so far, then those that the rest of the bytes hold.
-- Assumes nothing.
use mathlib.Core.Path.{◌≡◌}
use mathlib.Core.List.{◌++◌}
use Prim.Native.Nat.{◌+◌, ◌≤◌}
use lib.ListN.{length, take, drop}
use Rattle.stamp.specs.Stamp.{total}
use Rattle.numbers.specs.Fields.{read_fields}
use Rattle.numbers.proofs.read_fields.Given as goal

abbrev pub invariant-loop-i : goal.invariant-loop-i
invariant-loop-i l =
    (l.at + total (drop l.i l.ws) ≤ length l.bytes)
    × (read_fields l.ws l.bytes ≡ take l.i l.v ++ read_fields (drop l.i l.ws) (drop l.at l.bytes))
