-- `program::message_turn` meets its contract. Assumes nothing.
use borrow.Author.Rules.{rules}
use Rattle.program.proofs.Owes.{message-opens, message-replies}
use Rattle.program.proofs.message_turn.Goals as goal

pub returns-then-not-opened : goal.returns-then-not-opened
returns-then-not-opened c =
    let s = c.args in
    message-opens s.book.now s.msg.now s.out.now s.opened (search rules) _ _ _
    c.open_turn.ensures

pub returns : goal.returns
returns c =
    let w = c.args in
    message-replies w.book.now w.msg.now w.out.now w.opened (search rules) c.requires _ _ _
    c.answer-said.ensures
