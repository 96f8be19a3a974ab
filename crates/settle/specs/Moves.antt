-- The book put in order in place, record by record: what a step does after its rows are set and its new records are in
-- the log. Assumes nothing.
use Rattle.std.specs.Prelude.{Bool, not, ◌&&◌, cond, List, [], ◌∷◌}
use Rattle.stamp.specs.Stamp.{Stamp, merge}
use Rattle.tally.specs.Body.{taps_in}
use Rattle.tally.specs.Standing.{counting}
use Rattle.tally.specs.declared.Tap.{Tap}
use Rattle.ledger.specs.Log.{remaining}
use Rattle.ledger.specs.Record.{Record, stamp_of, is_applied}
use Rattle.meaning.specs.Book.{Book, ready}
use Rattle.lent.specs.With.{with_value, with_log, with_counted, with_prompts}

-- some taps counted: each that is not among the counted ones is put in its place and noted at its prompt
unfoldable pub count_taps : List Tap → Book → Book
count_taps ts b =
    with_prompts (counting ts (b.counted, b.prompts)).1 (with_counted (counting ts (b.counted, b.prompts)).0 b)

-- applied under the ready stamp `now`, and not under the one before
unfoldable pub is_newly_applied : Stamp → Stamp → Record → Bool
is_newly_applied before now r = is_applied now r && not (is_applied before r)

-- a newly applied record adds to the value stamp, counted taps and prompts that it finds
abbrev pub added : Record → Book → Book
added r b = count_taps (taps_in r.body) (with_value (merge (stamp_of r) b.value) b)

unfoldable pub apply_one : Stamp → Stamp → Record → Book → Book
apply_one before now r b = cond (is_newly_applied before now r) (added r b) b

-- every record of a list, the last one first
abbrev pub apply_all : Stamp → Stamp → List Record → Book → Book
apply_all before now [] b = b
apply_all before now (r ∷ rs) b = apply_one before now r (apply_all before now rs b)

-- what may go dropped
abbrev pub shed : Book → Book
shed b = with_log (remaining (ready b) b.table b.log) b

-- the log's newly applied records applied, then what may go dropped
unfoldable pub settled : Stamp → Book → Book
settled before b = with_log (remaining (ready b) b.table b.log) (apply_all before (ready b) b.log b)
