-- `arrivals::look_at` meets its contract. Assumes nothing.
use native.Mathlib.Omega.{arith}
use mathlib.Core.Path.{sym, ap, ◌∙◌}
use Rattle.std.specs.Prelude.{Ok, Err}
use Rattle.stamp.specs.Parts.{list_of}
use Rattle.arrivals.proofs.Turn.{look-whole}
use Rattle.arrivals.proofs.look_at.Goals as goal

pub returns-then-first_at_most : goal.returns-then-first_at_most
returns-then-first_at_most c =
    let w = c.args in
    let whole = c.first_at_most.ensures
    ∙ look-whole w.msg.now c.requires.head.formed w.n w.known.now (list_of w.m) _ _ c.told-known c.requires.n_bound
    c.list_of.ensures c.survey-new.ensures.reached_after.0 in
    record {
      value = rw (sym whole ∙ c.if-first_at_most.true) (ap Ok c.survey-new.ensures.value.0);
      few = omega (arith, c.survey-new.ensures.value.0, c.survey-new.ensures.value.1);
    }

pub returns-else-first_at_most : goal.returns-else-first_at_most
returns-else-first_at_most c =
    let w = c.args in
    let whole = c.first_at_most.ensures
    ∙ look-whole w.msg.now c.requires.head.formed w.n w.known.now (list_of w.m) _ _ c.told-known c.requires.n_bound
    c.list_of.ensures c.survey-new.ensures.reached_after.0 in
    record {
      value = rw (sym whole ∙ c.if-first_at_most.false) (ap Err c.survey-new.ensures.value.0);
      few = omega (arith, c.survey-new.ensures.value.0, c.survey-new.ensures.value.1);
    }
