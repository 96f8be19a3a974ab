-- `lent::standing_of` meets its contract. Assumes nothing.
use mathlib.Core.Path.{ap, ◌∙◌}
use mathlib.Core.List.{List}
use lib.ListN.{get_or}
use Rattle.tally.specs.Standing.{blank}
use Rattle.tally.specs.declared.Standing.{Standing}
use Rattle.prompts.specs.Region.{standings_at}
use Rattle.meaning.specs.Book.{standing_at}
use Rattle.lent.specs.Changes.{standings_are}
use Rattle.lent.specs.Held.{held-long}
use Rattle.lent.specs.Words.{size}
use Rattle.lent.proofs.standing_of.Goals as goal

pub prompt_words-requires : goal.prompt_words-requires
prompt_words-requires c = held-long c.args.b.now c.requires.held

pub standing_at-requires : goal.standing_at-requires
unfolding size
standing_at-requires c =
    record {
      r_len = c.prompt_words.ensures.1;
      p_lt_prompt_count = c.requires.prompt_lt_prompt_count;
    }

pub returns : goal.returns
unfolding standing_at
returns c =
    c.standing_at.ensures
    ∙ ap (λ (ss : List Standing). get_or ss c.args.prompt blank)
    (ap standings_at c.prompt_words.ensures.0 ∙ standings_are c.args.b.now c.requires.held)
