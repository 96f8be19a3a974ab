-- `taps::rising_words` meets its contract. Assumes nothing.
use Rattle.std.proofs.Common.{rules, ltb, sym, ◌∙◌}
use Rattle.std.proofs.lemmas.Fn.{always_returns_same}
use Rattle.taps.specs.RegionLaws.{rising-taps}
use Rattle.taps.proofs.WordLaws.{sorted-rising}
use Rattle.taps.proofs.rising_words.Goals as goal

pub returns : goal.returns
returns c =
    let words = c.args.words.now in
    sorted-rising words _ (c.is_sorted_by.ensures.cases ltb (always_returns_same _ _ _ (λ a r f k. search rules)))
    ∙ sym (rising-taps words)
