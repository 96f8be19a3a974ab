-- `gossip_step::merged_sum` meets its contract. Assumes nothing.
use native.Mathlib.Omega.{arith}
use mathlib.Core.Path.{sym, ap, subst, ◌∙◌}
use lib.Dec.{T, ltb}
use lib.ListN.{length}
use Rattle.lists.specs.Tests.{every}
use Rattle.limits.specs.Limits.{word}
use Rattle.stamp.specs.Laws.{length-merge}
use Rattle.stamp.specs.Parts.{list_of}
use Rattle.stamp.specs.PartsLaws.{whole-stamp}
use Rattle.stamp.specs.Stamp.{Stamp, merge, total}
use Rattle.gossip_step.proofs.merged_sum.Goals as goal

pub sum-requires : goal.sum-requires
sum-requires c =
    let e = c.merge_into.ensures
    ∙ ap (λ (x : Stamp). merge x c.args.m.now)
    (c.list_of-s.ensures ∙ ap list_of c.parts_at.ensures ∙ whole-stamp c.args.a.now c.requires.a_len.0)
    in
    record {
      s_len_bound = omega (arith, ap length e, length-merge c.args.a.now c.args.m.now (omega arith));
      t = subst (λ (x : Stamp). T (every (λ y. ltb y word) x)) (sym e) c.requires.t;
    }

pub returns : goal.returns
returns c =
    let e = c.merge_into.ensures
    ∙ ap (λ (x : Stamp). merge x c.args.m.now)
    (c.list_of-s.ensures ∙ ap list_of c.parts_at.ensures ∙ whole-stamp c.args.a.now c.requires.a_len.0)
    in
    c.sum.ensures ∙ ap total e
