-- `ask_step::label_unknown` meets its contract. Assumes nothing.
use mathlib.Core.Path.{ap, ap₂, ◌∙◌}
use lib.Dec.{ltb}
use Rattle.stamp.specs.Parts.{list_of}
use Rattle.stamp.specs.Stamp.{part}
use Rattle.ask_step.proofs.label_unknown.Goals as goal

pub returns : goal.returns
returns c =
    let i = c.screen_of-i.ensures in
    ap₂ ltb (c.part_at.ensures ∙ ap₂ part c.known_of-s.ensures.0 i)
    (c.part_of.ensures ∙ ap (part (list_of c.args.label)) i)
