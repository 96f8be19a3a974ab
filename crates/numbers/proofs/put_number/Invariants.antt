-- `numbers::put_number` meets its contract. The invariant, from the back: the bytes still to write, and what is
-- written. Assumes nothing.
use mathlib.Core.Path.{◌≡◌}
use mathlib.Core.List.{◌++◌}
use lib.ListN.{length, drop}
use Rattle.numbers.specs.Number.{bytes_of}
use Rattle.numbers.proofs.put_number.Given as goal

abbrev pub invariant-loop-i : goal.invariant-loop-i
invariant-loop-i l = bytes_of (length l.initial.s) l.n ≡ bytes_of l.i l.m ++ drop l.i l.s
