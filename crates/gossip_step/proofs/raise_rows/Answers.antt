-- `gossip_step::raise_rows` meets its contract. Assumes nothing.
use native.Mathlib.Omega.{arith}
use mathlib.Core.Path.{◌∙◌}
use Rattle.gossip_step.proofs.Put.{first-held, own_row, rows-raised}
use Rattle.gossip_step.proofs.raise_rows.Goals as goal

pub raise_row-requires-2 : goal.raise_row-requires-2
raise_row-requires-2 c =
    let w = c.args in
    record {
      held = first-held w.b.now c.requires.held w.j w.m.now c.requires.raisable _ c.raise_row.ensures;
      j_bound = (
        omega (
          arith,
          c.screen_of-me.ensures,
          own_row w.b.now c.requires.held w.j w.m.now c.requires.raisable _ c.raise_row.ensures,
        ),
        c.requires.raisable.long,
      );
    }

pub returns : goal.returns
returns c =
    let w = c.args in
    c.raise_row-2.ensures ∙ rows-raised w.b.now c.requires.held w.j w.m.now c.requires.raisable _
    c.raise_row.ensures _ c.screen_of-me.ensures
