-- `message::in_order` meets its contract. Assumes nothing.
use mathlib.Core.List.{[], ◌∷◌}
use mathlib.Core.Path.{◌≡◌}
use lib.ListN.{drop}
use Rattle.stamp.specs.Parts.{list_of}
use Rattle.wire.specs.Kinds.{record_kind}
use Rattle.message.specs.Message.{parts_of, in_order}
use Rattle.message.proofs.Turn.{rises_from}
use Rattle.message.proofs.in_order.Given as goal

abbrev pub invariant-loop-i : goal.invariant-loop-i
invariant-loop-i l =
    in_order (record_kind l.n (list_of l.m)) (parts_of l.count l.msg)
    ≡ rises_from (record_kind l.n (list_of l.m)) (l.last.0 ∷ l.last.1 ∷ []) (drop l.i (parts_of l.count l.msg))
