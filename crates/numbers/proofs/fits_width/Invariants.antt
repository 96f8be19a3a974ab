-- `numbers::fits_width` meets its contract. The invariant: w bytes hold n exactly when the divisions still to come
-- leave nothing of m. Assumes nothing.
use Prim.Native.Nat.{◌^◌, ◌-◌}
use mathlib.Core.Path.{◌≡◌}
use lib.Dec.{ltb}
use Rattle.numbers.proofs.fits_width.Given as goal

abbrev pub invariant-loop : goal.invariant-loop
invariant-loop l = ltb l.n (256 ^ l.w) ≡ ltb l.m (256 ^ (l.w - l.counter))
