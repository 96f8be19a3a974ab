-- `wire::room_of` meets its contract. Assumes nothing.
use borrow.Author.Tests.{ne_eqb}
use Rattle.limits.specs.Limits.{log_room}
use Rattle.wire.specs.Requests.{reply_room}
use Rattle.wire.proofs.room_of.Goals as goal

pub returns-in-1 : goal.returns-in-1
unfolding reply_room
returns-in-1 c = rw c.in-1.is

pub returns-in-3 : goal.returns-in-3
unfolding reply_room
returns-in-3 c = rw c.in-3.is

pub returns-in-4 : goal.returns-in-4
unfolding reply_room
returns-in-4 c = rw c.in-4.is

pub returns-in-12 : goal.returns-in-12
unfolding reply_room log_room
returns-in-12 c = rw c.in-12.is

-- no request's number: each test fails, the last arm's first
pub returns-in_default : goal.returns-in_default
unfolding reply_room
returns-in_default c =
    let r = c.in_default.in_default-own.rest in
    simp (ne_eqb _ _ r.1, ne_eqb _ _ r.0.1, ne_eqb _ _ r.0.0.1, ne_eqb _ _ r.0.0.0.1)
