-- `lent::raise_row` meets its contract. Assumes nothing.
use Prim.Native.Nat.{ℕ, ◌+◌, ◌-◌, ◌*◌}
use native.Mathlib.Omega.{arith}
use mathlib.Core.Path.{◌≡◌, ap, ◌∙◌}
use Rattle.lists.specs.Part.{mid, patch}
use Rattle.limits.specs.Limits.{parts}
use Rattle.stamp.specs.Stamp.{merge}
use Rattle.lent.specs.Changes.{row-merged}
use Rattle.lent.specs.Held.{held-long}
use Rattle.lent.specs.Rows.{row_within}
use Rattle.lent.specs.Words.{Table, from, book_long}
use Rattle.lent.proofs.raise_row.Goals as goal

pub overflow_mul-at : goal.overflow_mul-at
unfolding from book_long
overflow_mul-at c =
    record {
      fits = omega (
        arith,
        row_within c.args.b.now c.requires.held c.args.j c.requires.j_bound.0,
        held-long c.args.b.now c.requires.held,
      );
    }

pub overflow_add-at : goal.overflow_add-at
unfolding from book_long
overflow_add-at c =
    record {
      fits = omega (
        arith,
        row_within c.args.b.now c.requires.held c.args.j c.requires.j_bound.0,
        held-long c.args.b.now c.requires.held,
      );
    }

pub overflow_add-at-2 : goal.overflow_add-at-2
unfolding from book_long
overflow_add-at-2 c =
    record {
      fits = omega (
        arith,
        row_within c.args.b.now c.requires.held c.args.j c.requires.j_bound.0,
        held-long c.args.b.now c.requires.held,
      );
    }

pub merge_at-requires : goal.merge_at-requires
unfolding from
merge_at-requires c =
    omega (arith, row_within c.args.b.now c.requires.held c.args.j c.requires.j_bound.0, c.requires.j_bound.1)

pub returns : goal.returns
unfolding from
returns c =
    let ws = c.args.b.now in
    let at = from Table + c.args.j * parts in
    let e : at + parts - at ≡ parts = omega arith in
    c.merge_at.ensures ∙ ap (λ (k : ℕ). patch at k ws (merge (mid at k ws) c.args.m.now)) e
    ∙ row-merged ws c.requires.held c.args.j c.args.m.now c.requires.j_bound.0
