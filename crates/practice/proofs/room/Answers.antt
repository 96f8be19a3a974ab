-- `practice::room` meets its contract. Assumes nothing.
use Prim.Native.Nat.{ℕ}
use mathlib.Core.Path.{sym}
use lib.ListN.{length-replicate}
use Rattle.practice.proofs.room.Goals as goal

-- the level and the type are written out: else antt compares the two lists zero by zero
pub returns : goal.returns
returns c = sym (length-replicate {0} {A = ℕ} 900001 0)
