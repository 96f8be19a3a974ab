-- The log: what comes into it, what is newly applied, what goes, and what must be there. Assumes nothing.
use Rattle.std.specs.Prelude.{ℕ, suc, not, ◌&&◌, Bool, ◌||◌, List, [], ◌∷◌, ltb}
use Rattle.lists.specs.Order.{insert_all}
use Rattle.lists.specs.Tests.{keep, all_below}
use Rattle.stamp.specs.Stamp.{Stamp, merge, part}
use Rattle.ledger.specs.Message.{Message}
use Rattle.ledger.specs.Record.{Record, is_known, place, is_applied, may_go, is_waiting, stamp_of, has, everywhere}

-- gossip: keep the records not yet known
unfoldable pub unknowns : Stamp → List Record → List Record
unknowns s rs = keep (λ r. not (is_known s r)) rs

-- new records put into the log, by origin, then number
unfoldable pub gathered : List Record → List Record → List Record
gathered new log = insert_all place new log

-- The ready stamp: the stamp under which a record is applied, from the known stamp and the log. Today it is the known
-- stamp; its laws are in ReadyLaws, and nothing else opens it.
unfoldable pub ready_stamp : Stamp → List Record → Stamp
ready_stamp s log = s

-- applied under the ready stamp `now`, and not under the one before
unfoldable pub newly_applied : Stamp → Stamp → List Record → List Record
newly_applied before now rs = keep (λ r. is_applied now r && not (is_applied before r)) rs

-- the log holds exactly the known records that are not both applied and known everywhere
unfoldable pub remaining : Stamp → List Stamp → List Record → List Record
remaining y rows rs = keep (λ r. not (may_go y rows r)) rs

-- waiting: known, not applied
unfoldable pub waiting_in : Stamp → Stamp → List Record → List Record
waiting_in s y rs = keep (is_waiting s y) rs

-- the merge of the stamps of some records, over what is there already
abbrev pub merge_all : List Record → Stamp → Stamp
merge_all [] s = s
merge_all (r ∷ rs) s = merge (stamp_of r) (merge_all rs s)

-- every known record is in the log or known everywhere
unfoldable pub all_held : ℕ → Stamp → List Stamp → List Record → Bool
all_held n s rows log = all_below n (λ k. all_below (part s k) (λ q. has log k (suc q) || everywhere rows k (suc q)))

-- no gap: each record with number above our part k and at most m's part k is in the message
unfoldable pub gapless : ℕ → Stamp → Message → Bool
gapless n s m = all_below n (λ k. all_below (part m.stamp k) (λ q. ltb q (part s k) || has m.records k (suc q)))
