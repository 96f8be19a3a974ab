-- `lent::is_counted` meets its contract. Assumes nothing.
use native.Mathlib.Omega.{arith}
use lib.Seq.{length-take-le}
use mathlib.Core.Path.{sym, ap, ap₂, ◌∙◌}
use mathlib.Core.List.{List}
use Rattle.tally.specs.Standing.{among}
use Rattle.tally.specs.Tap.{tap_of}
use Rattle.tally.specs.declared.Tap.{Tap}
use Rattle.taps.specs.Region.{taps_at}
use Rattle.lent.specs.Changes.{taps_are}
use Rattle.lent.specs.Held.{held-long}
use Rattle.lent.specs.Words.{size}
use Rattle.lent.proofs.is_counted.Goals as goal

pub counted_words-requires : goal.counted_words-requires
counted_words-requires c = held-long c.args.b.now c.requires

pub slice_bounds-has-end : goal.slice_bounds-has-end
unfolding size
slice_bounds-has-end c =
    sym (length-take-le _ c.counted_words.result.now (omega (arith, c.taps_of.ensures, c.counted_words.ensures.1)))

pub returns : goal.returns
unfolding taps_at
returns c =
    c.has.ensures
    ∙ ap (λ (ts : List Tap). among ts (tap_of c.args.w))
    (ap₂ taps_at c.taps_of.ensures.0 c.counted_words.ensures.0
    ∙ taps_are c.args.b.now c.requires)
