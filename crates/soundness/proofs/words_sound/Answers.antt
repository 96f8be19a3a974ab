-- `soundness::words_sound` meets its contract. Assumes nothing.
use native.Mathlib.Omega.{arith}
use mathlib.Core.Path.{sym, ◌∙◌}
use lib.ListN.{get_or}
use Rattle.std.proofs.Common.{length-take-le}
use Rattle.limits.specs.LimitLaws.{log_small, book_small, most-parts}
use Rattle.lent.specs.Words.{size, book_long}
use Rattle.soundness.proofs.Shape.{placed, pieces_read}
use Rattle.soundness.proofs.words_sound.Goals as goal

pub bounds-b-0 : goal.bounds-b-0
unfolding book_long
bounds-b-0 c = omega (arith, c.requires.b_len)

pub bounds-b-1 : goal.bounds-b-1
unfolding book_long
bounds-b-1 c = omega (arith, c.requires.b_len)

pub bounds-b-2 : goal.bounds-b-2
unfolding book_long
bounds-b-2 c = omega (arith, c.requires.b_len)

pub bounds-b-3 : goal.bounds-b-3
unfolding book_long
bounds-b-3 c = omega (arith, c.requires.b_len)

pub rows_of-requires : goal.rows_of-requires
unfolding size
rows_of-requires c = (omega arith, omega (arith, placed c.args.b.now c.requires.numbers, c.table_words.ensures.1))

pub rows_of-requires-2 : goal.rows_of-requires-2
unfolding size
rows_of-requires-2 c = (omega arith, omega (arith, placed c.args.b.now c.requires.numbers, c.log_words.ensures.1))

pub slice_bounds-p-end : goal.slice_bounds-p-end
unfolding size
slice_bounds-p-end c =
    sym (length-take-le _ c.counted_words.result.now
    (omega (arith, placed c.args.b.now c.requires.numbers, c.counted_words.ensures.1)))

pub pieces_sound-requires : goal.pieces_sound-requires
unfolding size
pieces_sound-requires c =
    let n = placed c.args.b.now c.requires.numbers in
    let taps = length-take-le (get_or c.args.b.now 3 0) c.counted_words.result.now
    (omega (arith, n, c.counted_words.ensures.1)) in
    record {
      i_in_bounds = (omega (arith, n, c.rows_of.ensures.1), omega (arith, n, c.rows_of.ensures.1, most-parts));
      few = (
        omega (arith, n, c.rows_of-2.ensures.1, log_small),
        omega (arith, n, taps, book_small),
        c.prompt_words.ensures.1,
      );
    }

pub returns : goal.returns
returns c =
    c.pieces_sound.ensures
    ∙ rw (
      c.rows_of.ensures.0,
      c.table_words.ensures.0,
      c.value_words.ensures,
      c.rows_of-2.ensures.0,
      c.log_words.ensures.0,
      c.counted_words.ensures.0,
      c.prompt_words.ensures.0,
    )
    (pieces_read c.args.b.now)
