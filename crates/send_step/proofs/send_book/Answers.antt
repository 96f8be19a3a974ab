-- `send_step::send_book` meets its contract. Assumes nothing.
use Rattle.message.specs.Message.{message_bytes}
use Rattle.meaning.specs.Step.{send}
use Rattle.lent.specs.Words.{book_of}
use Rattle.send_step.specs.Parts.{start_at}
use Rattle.send_step.proofs.Turn.{sent-long, sent-whole, too_short, fits-front}
use Rattle.send_step.proofs.send_book.Goals as goal

pub returns-then-out-long : goal.returns-then-out-long
returns-then-out-long c =
    let ws = c.args.b.now in
    let n = c.logged_of.result in
    too_short (message_bytes (send (book_of ws))) c.args.out.now (start_at n)
    (sent-long ws c.requires n c.logged_of.ensures.0) c.if-out-long.true

pub returns : goal.returns
returns c =
    let ws = c.args.b.now in
    let n = c.logged_of.result in
    fits-front (message_bytes (send (book_of ws))) c.args.out.now (start_at n)
    (sent-long ws c.requires n c.logged_of.ensures.0) c.if-out-long.false _
    (sent-whole ws c.requires c.args.out.now _ _ c.put_head.ensures c.put_records.ensures)
