-- `answer::open_from` meets its contract. Assumes nothing.
use Rattle.std.proofs.lemmas.Result.{err_from_is_err_and}
use Rattle.lent.specs.Words.{book_long}
use Rattle.wire.specs.Kinds.{open_kind}
use Rattle.wire.proofs.ReadLaws.{unread}
use Rattle.answer.proofs.Owes.{opens-long, opens_unread, opens-read}
use Rattle.answer.proofs.open_from.Goals as goal

pub returns-then-b-ne-BOOK : goal.returns-then-b-ne-BOOK
unfolding book_long
returns-then-b-ne-BOOK c = let s = c.args in opens-long s.b.now s.msg.now c.if-b-ne-BOOK.true

pub returns-in_err-opening : goal.returns-in_err-opening
unfolding book_long
returns-in_err-opening c =
    let s = c.args in
    let told = unread open_kind s.msg.now _ c.in_err-opening.ensures in
    let p = err_from_is_err_and c.from_residual.result c.from_residual.ensures.1 in
    rw (p.1, p.2, told.1) (opens_unread s.b.now s.msg.now c.if-b-ne-BOOK.false told.0)

pub returns : goal.returns
returns c =
    let s = c.args in
    opens-read s.b.now s.msg.now _ c.in_ok-opening.ensures _ _ c.before.before.«open».ensures
