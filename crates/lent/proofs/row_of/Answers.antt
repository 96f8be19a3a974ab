-- `lent::row_of` meets its contract. Assumes nothing.
use native.Mathlib.Omega.{arith}
use mathlib.Core.Path.{◌∙◌}
use Rattle.lists.specs.Part.{mid}
use Rattle.stamp.specs.PartsLaws.{list-parts, length_list}
use Rattle.lent.specs.Held.{held-long}
use Rattle.lent.specs.Rows.{row_within, row_words}
use Rattle.lent.specs.Words.{from, book_long}
use Rattle.lent.proofs.row_of.Goals as goal

pub overflow_mul-j : goal.overflow_mul-j
unfolding from book_long
overflow_mul-j c =
    record {
      fits = omega (
        arith,
        row_within c.args.b.now c.requires.held c.args.j c.requires.j_bound,
        held-long c.args.b.now c.requires.held,
      );
    }

pub overflow_add-j : goal.overflow_add-j
unfolding from book_long
overflow_add-j c =
    record {
      fits = omega (
        arith,
        row_within c.args.b.now c.requires.held c.args.j c.requires.j_bound,
        held-long c.args.b.now c.requires.held,
      );
    }

pub parts_at-requires : goal.parts_at-requires
unfolding from
parts_at-requires c =
    omega (arith, row_within c.args.b.now c.requires.held c.args.j c.requires.j_bound)

pub returns : goal.returns
unfolding from mid
returns c =
    let ws = c.args.b.now in
    let j = c.args.j in
    let e = list-parts _ ws (row_within ws c.requires.held j c.requires.j_bound)
    ∙ row_words ws c.requires.held j c.requires.j_bound in
    rw (c.list_of.ensures, c.parts_at.ensures) (e, length_list _)
