-- `numbers::put_fields` meets its contract: what is written so far, then the rest of the row over the rest of the
-- bytes. Assumes nothing.
use mathlib.Core.Path.{◌≡◌}
use mathlib.Core.List.{◌++◌}
use Prim.Native.Nat.{◌+◌, ◌≤◌}
use lib.ListN.{length, take, drop}
use Rattle.stamp.specs.Stamp.{total}
use Rattle.numbers.specs.Fields.{put_fields}
use Rattle.numbers.proofs.put_fields.Given as goal

abbrev pub invariant-loop-i : goal.invariant-loop-i
invariant-loop-i l =
    (l.at + total (drop l.i l.ws) ≤ length l.initial.out)
    × (put_fields l.ws l.v l.initial.out ≡ take l.at l.out
    ++ put_fields (drop l.i l.ws) (drop l.i l.v) (drop l.at l.out))
