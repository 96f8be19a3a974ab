-- `permission::permission` meets its contract, from the question's promise alone. Assumes nothing.
use mathlib.Core.Path.{◌≡◌, refl, sym, ap, ◌∙◌}
use mathlib.Core.Bool.{false}
use mathlib.Core.List.{[], ◌∷◌}
use types.Run.{OneOf, miss}
use Rattle.tally.specs.Standing.{accepted}
use Rattle.meaning.specs.Reply.{permits}
use Rattle.promise.specs.Spoken.{spoken}
use Rattle.promise.specs.declared.Reply.{Reply}
use Rattle.promise.specs.declared.Reply.TheVariants as says
use borrow.Enum.Refused.{opened}
use Rattle.permission.proofs.permission.Goals as goal

-- the `else` of the `let`: the answer is any other case than the third, a verdict
others : (q : Reply) → OneOf (0 ∷ 1 ∷ 3 ∷ 4 ∷ 5 ∷ [])
    (denote.Enum.Declared.tag_of Rattle.promise.specs.contracts.Reply.the_type q) → false ≡ permits (spoken q)
others (says.Taken s) h = refl
others (says.Already s) h = refl
others (says.Verdict v) h = absurd (miss (0 ∷ 1 ∷ 3 ∷ 4 ∷ 5 ∷ []) 2 tt h)
others (says.Wait b) h = refl
others (says.Refused n) h = refl
others (says.Gossiped g) h = refl

pub returns-in_default : goal.returns-in_default
returns-in_default c = others c.question.result (opened c.in_default.in_default-own.keys2)
    ∙ ap permits c.question.ensures.answers

pub returns : goal.returns
unfolding accepted
returns c = ap (λ (q : Reply). permits (spoken q)) (sym c.in-Verdict.is)
    ∙ ap permits c.question.ensures.answers
