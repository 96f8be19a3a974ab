-- `prompts::tabulate` meets its contract. Assumes nothing.
use native.Mathlib.Omega.{arith}
use mathlib.Core.Path.{sym, ap, subst, ◌∙◌}
use mathlib.Core.List.{List, map}
use lib.ListN.{take, get_or}
use Rattle.tally.specs.Standing.{CountsFit, blank}
use Rattle.tally.proofs.StandingLaws.{afresh-length}
use Rattle.tally.specs.Tap.{tap_of}
use Rattle.tally.specs.declared.Standing.{Standing}
use Rattle.prompts.specs.Region.{standings_at, standing_words, noted_at}
use Rattle.prompts.specs.RegionLaws.{prompt-word, standings-noted}
use Rattle.prompts.proofs.Turn.{first_afresh, noted_more, noted-fits}
use Rattle.prompts.proofs.tabulate.Goals as goal

pub note-requires-clause-counts_fit : goal.note-requires-clause-counts_fit
note-requires-clause-counts_fit c =
    let taps = c.args.taps.now in
    let i = c.loop-w.w-index in
    let p = (tap_of (get_or taps i 0)).prompt in
    subst (λ (ss : List Standing). CountsFit (get_or ss p blank)) (sym c.loop-w.invariant.1)
    (noted-fits taps i (omega arith) p (prompt-word (get_or taps i 0)) c.requires.few)

pub loop-w-preserved : goal.loop-w-preserved
loop-w-preserved c =
    let taps = c.args.taps.now in
    let i = c.loop-w.w-index in
    let t = tap_of (get_or taps i 0) in
    let was = c.note.ensures.r_after
    ∙ ap (λ (ss : List Standing). standing_words (noted_at t ss)) c.loop-w.invariant.1 in (
      c.note.ensures.r_len_2,
      ap standings_at was ∙ standings-noted t (first_afresh taps i) (afresh-length (map tap_of (take i taps)))
          ∙ sym (noted_more taps i (omega arith)),
    )
