-- `numbers::number_of` meets its contract. The invariant: n is what the bytes read so far hold, and the rest goes on
-- from it. Assumes nothing.
use Prim.Native.Nat.{◌<◌, ◌^◌}
use mathlib.Core.Path.{◌≡◌}
use lib.ListN.{drop}
use Rattle.numbers.specs.Number.{number_of, number_from}
use Rattle.numbers.proofs.number_of.Given as goal

abbrev pub invariant-loop-x : goal.invariant-loop-x
invariant-loop-x l =
    (l.n < 256 ^ l.x-index) × (number_of l.s ≡ number_from l.n (drop l.x-index l.s))
