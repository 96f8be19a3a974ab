-- `consent::consent_open` meets its contract. Assumes nothing.
use Rattle.consent.specs.NumberedLaws.{opened_as, refused_with}
use Rattle.consent.proofs.consent_open.Goals as goal

pub returns-in-Ok : goal.returns-in-Ok
returns-in-Ok c =
    let s = c.args in
    opened_as s.book.now s.screen s.screens _ _ c.«open».ensures c.in-Ok.is

pub returns-in-Err : goal.returns-in-Err
returns-in-Err c =
    let s = c.args in
    rw c.number.ensures (refused_with s.book.now s.screen s.screens _ _ c.«open».ensures _ c.in-Err.is)
