-- `screen::main` is safe and ends: what each turn asks for and says is within the arrays. Assumes nothing.
use Prim.Native.Nat.{◌≤◌}
use mathlib.Core.Path.{◌≡◌}
use lib.ListN.{length}
use Rattle.wire.specs.Kinds.{longest}
use Rattle.lent.specs.Words.{book_long}
use Rattle.screen.proofs.main.Given as goal

abbrev pub invariant-loop : goal.invariant-loop
invariant-loop l =
    (length l.book ≡ book_long) × (length l.msg ≡ longest) × (length l.out ≡ longest) × (l.have ≤ longest)
