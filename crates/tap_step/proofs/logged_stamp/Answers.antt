-- `tap_step::logged_stamp` meets its contract. Assumes nothing.
use mathlib.Core.Path.{ap, sym, subst, ◌∙◌}
use Prim.Native.Nat.{◌<◌}
use Rattle.limits.specs.Limits.{parts}
use Rattle.ledger.specs.Record.{Record, stamp_of}
use Rattle.lent.specs.SoundWords.{lawful-held}
use Rattle.tap_step.proofs.Turn.{logged-origin}
use Rattle.tap_step.proofs.logged_stamp.Goals as goal

pub log_row-row-requires : goal.log_row-row-requires
log_row-row-requires c =
    record {
      held = lawful-held c.args.b.now c.requires.t;
      i_in_bounds = c.requires.i_in_bounds;
    }

pub stamp_parts-requires : goal.stamp_parts-requires
stamp_parts-requires c =
    subst (λ (x : Record). x.origin < parts) (sym c.log_row-row.ensures)
    (logged-origin c.args.b.now c.requires.t c.args.i c.requires.i_in_bounds)

pub returns : goal.returns
returns c = c.stamp_parts.ensures ∙ ap stamp_of c.log_row-row.ensures
