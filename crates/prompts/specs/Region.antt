-- The prompts' standings as words: three for each prompt (showing, accepts, declines). Assumes nothing.
use Rattle.std.specs.Prelude.{ℕ, ◌*◌, List, map, get_or, set}
use Rattle.lists.specs.Rows.{rows, flat}
use Rattle.limits.specs.Limits.{prompt_count}
use Rattle.tally.specs.Standing.{blank, counts, noted}
use Rattle.tally.specs.declared.Standing.{Standing}
use Rattle.tally.specs.declared.Tap.{Tap}

-- the words of a standing, and of all
abbrev pub standing_long : ℕ
standing_long = 3

abbrev pub prompt_words : ℕ
prompt_words = prompt_count * standing_long

-- the standing that a cell of three words holds
abbrev pub standing_in : List ℕ → Standing
standing_in c = record { showing = get_or c 0 0; accepts = get_or c 1 0; declines = get_or c 2 0 }

-- the standings that a region holds, and the region of some standings
unfoldable pub standings_at : List ℕ → List Standing
standings_at r = map standing_in (rows standing_long prompt_count r)

unfoldable pub standing_words : List Standing → List ℕ
standing_words ss = flat (map counts ss)

-- the standings with one more tap noted at its prompt
abbrev pub noted_at : Tap → List Standing → List Standing
noted_at t ss = set ss t.prompt (noted t (get_or ss t.prompt blank))
