-- `program::open_turn` meets its contract. Assumes nothing.
use Rattle.program.proofs.Owes.{opens_silent, opens-refused}
use Rattle.program.proofs.open_turn.Goals as goal

pub returns-in-Ok : goal.returns-in-Ok
returns-in-Ok c =
    let s = c.args in
    opens_silent s.book.now s.msg.now _ _ c.open_from.ensures s.out.now c.in-Ok.is

pub returns-in-Err : goal.returns-in-Err
returns-in-Err c =
    let s = c.args in
    opens-refused s.book.now s.msg.now _ _ c.open_from.ensures s.out.now _ c.in-Err.is
    _ _ c.last_refusal.ensures.value c.last_refusal.ensures.out_after
