-- `requests::question_fits` meets its contract. Assumes nothing.
use Rattle.std.proofs.Common.{sym, ◌∙◌}
use Rattle.stamp.specs.Parts.{list_of, parts_at}
use Rattle.wire.specs.Kinds.{question_kind}
use Rattle.requests.proofs.question_fits.Goals as goal

pub returns-then-prompt_fits : goal.returns-then-prompt_fits
unfolding question_kind parts_at list_of
returns-then-prompt_fits c = rw (sym c.prompt_fits.ensures ∙ c.if-prompt_fits.true) c.parts_fit.ensures

pub returns-else-prompt_fits : goal.returns-else-prompt_fits
unfolding question_kind parts_at list_of
returns-else-prompt_fits c = rw (sym c.prompt_fits.ensures ∙ c.if-prompt_fits.false) c.if-prompt_fits.false
