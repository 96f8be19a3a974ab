-- `prompts::tabulate` meets its contract. The invariant: the table holds the taps so far. Assumes nothing.
use Rattle.std.proofs.Common.{◌≡◌, length}
use Rattle.prompts.specs.Region.{prompt_words, standings_at}
use Rattle.prompts.proofs.Turn.{first_afresh}
use Rattle.prompts.proofs.tabulate.Given as goal

abbrev pub invariant-loop-w : goal.invariant-loop-w
invariant-loop-w l = (length l.table ≡ prompt_words) × (standings_at l.table ≡ first_afresh l.taps l.w-index)
