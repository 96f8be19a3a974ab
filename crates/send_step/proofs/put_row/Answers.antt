-- `send_step::put_row` meets its contract. Assumes nothing.
use borrow.Author.Rules.{rules}
use Rattle.send_step.proofs.Turn.{wrote-row}
use Rattle.send_step.proofs.put_row.Goals as goal

pub returns : goal.returns
returns c =
    wrote-row c.args.row.now c.args.n c.args.m c.parts_at.result c.unpack.result (search rules)
    c.parts_at.ensures c.unpack.ensures c.args.part.now c.write_record.result _ c.requires.part_len
    c.requires.t c.write_record.ensures
