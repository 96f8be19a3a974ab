-- `send_step::put_head` meets its contract. Assumes nothing.
use Rattle.send_step.proofs.Turn.{wrote-head}
use Rattle.send_step.proofs.put_head.Goals as goal

pub returns : goal.returns
returns c =
    wrote-head c.args.b.now c.requires.t c.args.m c.requires.m_value _ _ _ c.screen_of.ensures
    c.screens_of.ensures.0 c.logged_of.ensures.0
    c.args.out.now c.write_head.result _ c.requires.head_long_in_bounds c.write_head.ensures
