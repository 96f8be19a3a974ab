-- A message that keeps its field rules, rule by rule. Assumes nothing.
use Rattle.std.specs.Prelude.{ℕ, ◌≤◌, Bool, T, length}
use Rattle.lists.specs.TestLaws.{◌∈◌}
use Rattle.lists.specs.Order.{rising}
use Rattle.limits.specs.Limits.{log_room}
use Rattle.stamp.specs.Laws.{Fits}
use Rattle.stamp.specs.Stamp.{part}
use Rattle.ledger.specs.Message.{Message, in_range}
use Rattle.ledger.specs.Record.{Record, place, record_fits}

pub record Readable (body_fits : ℕ → Bool) (m : Message) : Type 0 where
  pub range : T (in_range m.sender m.screens)
  pub stamp-fits : Fits m.screens m.stamp
  pub few : length m.records ≤ log_room
  pub order : T (rising place m.records)
  pub reached : (r : Record) → r ∈ m.records → r.number ≤ part m.stamp r.origin
  pub obey : (r : Record) → r ∈ m.records → T (record_fits body_fits m.screens r)
