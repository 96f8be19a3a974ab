-- `practice::play::play` meets its contract. Assumes nothing.
use mathlib.Core.Path.{ap, ◌∙◌}
use borrow.Author.Rules.{rules}
use Rattle.limits.specs.Limits.{log_room}
use Rattle.lent.specs.Words.{book_long}
use Rattle.vectors.specs.Compare.{Outcome, ended_by}
use Rattle.practice.proofs.play.play.Goals as goal

pub returns : goal.returns
unfolding book_long
returns c = c.end_at.ensures ∙ ap (λ (o : Outcome). ended_by o c.args.expected.now) c.follow.ensures

pub follow-requires : goal.follow-requires
unfolding log_room
follow-requires c = search rules
