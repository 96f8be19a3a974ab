-- `prompts::counts_follow` meets its contract. Assumes nothing.
use mathlib.Core.Path.{sym, ap, ap₂, ◌∙◌}
use Rattle.lists.specs.Order.{same_key}
use Rattle.limits.specs.Limits.{prompt_count}
use Rattle.tally.specs.Standing.{afresh}
use Rattle.tally.proofs.StandingLaws.{afresh-length}
use Rattle.taps.specs.Region.{word_taps}
use Rattle.prompts.specs.Region.{standings_at, standing_words}
use Rattle.prompts.specs.RegionLaws.{words_standings, length_standings, standings-fresh, same-counts}
use Rattle.prompts.proofs.Turn.{pointwise-key}
use borrow.Author.Rules.{rules}
use Rattle.prompts.proofs.counts_follow.Goals as goal

pub tabulate-requires : goal.tabulate-requires
unfolding prompt_count
tabulate-requires c =
    record {
      table_len = search rules;
      table_value = standings-fresh;
      few = c.requires.few;
    }

pub returns : goal.returns
returns c =
    let r = c.args.r.now in
    let ts = word_taps c.args.taps.now in
    let table = sym (words_standings _ c.tabulate.ensures.table_len_2)
    ∙ ap standing_words c.tabulate.ensures.table_after in
    c.eq.ensures ∙ pointwise-key r _ ∙ ap₂ same_key (sym (words_standings r c.requires.r_len)) table
    ∙ same-counts (standings_at r) (afresh ts) (length_standings r ∙ sym (afresh-length ts))
