-- All that is known of the ready stamp: it is at most the known stamp, it rises with the steps of a book, and what a
-- step drops does not move it. Assumes nothing.
use Rattle.std.specs.Prelude.{◌<◌, ◌≡◌, refl, List}
use Rattle.std.proofs.Common.{arith}
use Rattle.lists.specs.TestLaws.{◌∈◌}
use Rattle.stamp.specs.Laws.{Covers}
use Rattle.stamp.specs.Stamp.{Stamp, part}
use Rattle.ledger.specs.Log.{ready_stamp, gathered, remaining}
use Rattle.ledger.specs.Record.{Record}

pub ready-most : (s : Stamp) (log : List Record) → Covers s (ready_stamp s log)
unfolding ready_stamp
ready-most s log k = omega arith

pub ready-rises :
    (s s' : Stamp) (new log : List Record) → Covers s' s
    → ((r : Record) → r ∈ new → part s r.origin < r.number)
    → Covers (ready_stamp s' (gathered new log)) (ready_stamp s log)
unfolding ready_stamp
ready-rises s s' new log c f = c

pub ready_drops :
    (s : Stamp) (rows : List Stamp) (log : List Record)
    → ready_stamp s (remaining (ready_stamp s log) rows log) ≡ ready_stamp s log
unfolding ready_stamp
ready_drops s rows log = refl
