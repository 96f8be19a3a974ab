-- `lent::insert_tap` meets its contract. Assumes nothing.
use Prim.Native.Nat.{ℕ, ◌+◌}
use native.Mathlib.Omega.{arith}
use mathlib.Core.Path.{sym, ap, subst, ◌∙◌}
use mathlib.Core.Bool.{not}
use mathlib.Core.List.{List}
use lib.Dec.{T}
use lib.ListN.{set}
use Rattle.lists.specs.Order.{rising}
use Rattle.lists.specs.Part.{patch}
use Rattle.tally.specs.Standing.{among}
use Rattle.tally.specs.Tap.{fields, tap_of}
use Rattle.tally.specs.declared.Tap.{Tap}
use Rattle.taps.specs.Region.{taps_at, inserted_at}
use Rattle.lent.specs.Changes.{taps_are, tap_inserted}
use Rattle.lent.specs.Held.{piece-within, held-long}
use Rattle.lent.specs.Words.{Taps, Counted, size, from, piece, book_long}
use Rattle.lent.proofs.insert_tap.Goals as goal

pub insert_at-requires : goal.insert_at-requires
unfolding from size
insert_at-requires c =
    let ws = c.args.b.now in
    let n = c.taps_of-n.ensures.0 in
    let w = piece-within ws c.requires.held Counted in
    let e = ap (λ (k : ℕ). taps_at k (piece Counted ws)) n ∙ taps_are ws c.requires.held in
    record {
      a_le_e = (omega arith, omega (arith, w), omega (arith, n, c.requires.insertable.room));
      t = subst (λ (ts : List Tap). T (rising fields ts)) (sym e) c.requires.insertable.order;
      t_2 = subst (λ (ts : List Tap). T (not (among ts (tap_of c.args.w)))) (sym e) c.requires.insertable.new;
    }

pub overflow_add-b : goal.overflow_add-b
unfolding size
overflow_add-b c = record { fits = omega (arith, c.taps_of-n.ensures.1) }

pub bounds-b-3 : goal.bounds-b-3
unfolding book_long
bounds-b-3 c = omega (arith, held-long c.args.b.now c.requires.held)

pub returns : goal.returns
unfolding from size
returns c =
    let ws = c.args.b.now in
    ap (λ (l : List ℕ). set l (from Taps) (c.taps_of-n.result + 1)) c.insert_at.ensures
    ∙ ap (λ (n : ℕ). set (patch (from Counted) (size Counted) ws (inserted_at n c.args.w (piece Counted ws)))
    (from Taps) (n + 1)) c.taps_of-n.ensures.0
    ∙ tap_inserted ws c.requires.held c.args.w c.requires.insertable
