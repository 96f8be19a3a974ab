-- `tap_step::stamp_parts` meets its contract. Assumes nothing.
use mathlib.Core.Path.{ap, ◌∙◌}
use Rattle.stamp.specs.Parts.{list_of}
use Rattle.stamp.specs.PartsLaws.{whole-stamp}
use borrow.Author.Rules.{rules}
use Rattle.tap_step.proofs.stamp_parts.Goals as goal

pub returns : goal.returns
returns c =
    let r = c.row_stamp-s in
    ap list_of c.parts_at.ensures ∙ whole-stamp r.result (search rules) ∙ r.ensures
