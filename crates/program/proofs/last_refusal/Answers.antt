-- `program::last_refusal` meets its contract. Assumes nothing.
use Rattle.program.proofs.Owes.{refusal-said, refusal_unsaid}
use Rattle.program.proofs.last_refusal.Goals as goal

pub returns-in-Ok : goal.returns-in-Ok
returns-in-Ok c =
    let said = rw c.from.ensures at c.speak.ensures in
    let all = refusal-said c.args.refused c.args.out.now _ _ c.requires said _ c.in-Ok.is in
    record { value = all.0; out_after = all.1 }

pub returns-in-Err : goal.returns-in-Err
returns-in-Err c =
    let said = rw c.from.ensures at c.speak.ensures in
    absurd (refusal_unsaid c.args.refused c.args.out.now _ _ c.requires said _ c.in-Err.is)
