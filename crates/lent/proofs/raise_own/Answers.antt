-- `lent::raise_own` meets its contract. Assumes nothing.
use native.Mathlib.Omega.{arith}
use Prim.Native.Nat.{ℕ, ◌+◌, ◌*◌}
use mathlib.Core.Path.{ap, ◌∙◌}
use lib.ListN.{set}
use Rattle.limits.specs.Limits.{parts}
use Rattle.lent.specs.Changes.{own-within, own-raised}
use Rattle.lent.specs.Held.{held-long}
use Rattle.lent.specs.Words.{Table, from, book_long}
use Rattle.lent.proofs.raise_own.Goals as goal

pub overflow_mul-b : goal.overflow_mul-b
unfolding from book_long
overflow_mul-b c =
    record {
      fits = omega (
        arith,
        c.screen_of-i.ensures,
        own-within c.args.b.now c.requires.held c.requires.b_bound,
        held-long c.args.b.now c.requires.held,
      );
    }

pub overflow_add-b : goal.overflow_add-b
unfolding from book_long
overflow_add-b c =
    record {
      fits = omega (
        arith,
        c.screen_of-i.ensures,
        own-within c.args.b.now c.requires.held c.requires.b_bound,
        held-long c.args.b.now c.requires.held,
      );
    }

pub overflow_add-b-2 : goal.overflow_add-b-2
unfolding from book_long
overflow_add-b-2 c =
    record {
      fits = omega (
        arith,
        c.screen_of-i.ensures,
        own-within c.args.b.now c.requires.held c.requires.b_bound,
        held-long c.args.b.now c.requires.held,
      );
    }

pub offset_bounds-b-i : goal.offset_bounds-b-i
unfolding from book_long
offset_bounds-b-i c =
    record {
      fits = omega (
        arith,
        c.screen_of-i.ensures,
        own-within c.args.b.now c.requires.held c.requires.b_bound,
        held-long c.args.b.now c.requires.held,
      );
    }

pub bounds-b-i : goal.bounds-b-i
unfolding from
bounds-b-i c = omega (arith, c.screen_of-i.ensures, own-within c.args.b.now c.requires.held c.requires.b_bound)

pub returns : goal.returns
unfolding from
returns c =
    let ws = c.args.b.now in
    ap (λ (i : ℕ). set ws (from Table + i * parts + i) c.args.number) c.screen_of-i.ensures
    ∙ own-raised ws c.requires.held c.requires.b_bound c.args.number
