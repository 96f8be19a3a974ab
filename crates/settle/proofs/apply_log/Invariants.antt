-- `settle::apply_log` meets its contract. The invariant: the records from the i-th on are applied. Assumes nothing.
use Prim.Native.Nat.{◌+◌, ◌≤◌}
use mathlib.Core.Path.{◌≡◌}
use lib.ListN.{length, drop}
use Rattle.ledger.specs.Log.{newly_applied}
use Rattle.limits.specs.Limits.{log_room}
use Rattle.lent.specs.Words.{book_of, words_of}
use Rattle.settle.specs.Ready.{applied_from}
use Rattle.settle.proofs.apply_log.Given as goal

abbrev pub invariant-loop-i : goal.invariant-loop-i
invariant-loop-i l =
    (l.i ≤ length (book_of l.initial.b).log) × (length l.b ≡ length l.initial.b)
    × (l.b ≡ words_of (applied_from l.before l.s (book_of l.initial.b) l.i))
    × (l.n ≡ length (newly_applied l.before l.s (drop l.i (book_of l.initial.b).log))) × (l.n + l.i ≤ log_room)
