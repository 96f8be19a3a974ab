-- `send_step::put_records` meets its contract. The invariant: the records from i on are what is still to be written.
-- Assumes nothing.
use Rattle.std.proofs.Common.{◌≡◌, length, drop}
use Rattle.wire.specs.Kinds.{head_long}
use Rattle.meaning.specs.Step.{send}
use Rattle.lent.specs.Words.{book_of}
use Rattle.send_step.specs.Parts.{start_at, with_records}
use Rattle.send_step.proofs.put_records.Given as goal

abbrev pub invariant-loop-i : goal.invariant-loop-i
invariant-loop-i l =
    with_records (send (book_of l.b)) (book_of l.b).log head_long (start_at (length (book_of l.b).log)) l.initial.out
    ≡ with_records (send (book_of l.b)) (drop l.i (book_of l.b).log) (start_at l.i)
    (start_at (length (book_of l.b).log)) l.out
