-- `log_edit::drop_rows` meets its contract. The invariant: the stayers are the rows kept and those of the rows to come.
-- Assumes nothing.
use Rattle.log_edit.proofs.Drop.{Closing}
use Rattle.log_edit.proofs.drop_rows.Given as goal

abbrev pub invariant-loop-i : goal.invariant-loop-i
invariant-loop-i l = Closing l.ready l.low l.count l.initial.r l.r l.kept l.i
