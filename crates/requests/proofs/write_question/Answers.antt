-- `requests::write_question` meets its contract. Assumes nothing.
use mathlib.Core.Path.{refl}
use Rattle.lists.specs.Part.{patch}
use Rattle.stamp.specs.Parts.{list_of}
use Rattle.wire.proofs.Returns.{failed, passed, broken, put}
use Rattle.wire.specs.Kinds.{question_kind}
use Rattle.requests.proofs.write_question.Goals as goal

pub returns-then-not-question_fits : goal.returns-then-not-question_fits
unfolding question_kind
returns-then-not-question_fits c = broken (question_kind _) _ _ refl
    (failed c.question_fits.ensures c.if-not-question_fits.true-raw)

pub put_line-requires : goal.put_line-requires
put_line-requires c = rw c.question_widths.ensures refl

pub returns : goal.returns
unfolding question_kind list_of patch
returns c =
    put (question_kind _) _ _ refl _ _ (passed c.question_fits.ensures c.if-not-question_fits.false-raw)
    (rw (c.question_widths.ensures, c.put_parts.ensures, c.from.ensures) at c.put_line.ensures)
