-- A book's clauses as they are tested, group by group: by the lowest stamp of the table, and without those that follow
-- from the others. Assumes nothing.
use Rattle.std.specs.Prelude.{ℕ, ◌+◌, Bool, not, ◌||◌, List, [], ◌∷◌, leb, length, get_or}
use Rattle.lists.specs.Order.{rising}
use Rattle.lists.specs.Tests.{all, every}
use Rattle.limits.specs.Limits.{book_room}
use Rattle.stamp.specs.Stamp.{Stamp, stamp_fits, total, at_most}
use Rattle.tally.specs.Standing.{afresh, same_counts}
use Rattle.tally.specs.Body.{body_fits}
use Rattle.tally.specs.Tap.{fields, tap_fits}
use Rattle.tally.specs.declared.Standing.{Standing}
use Rattle.tally.specs.declared.Tap.{Tap}
use Rattle.ledger.specs.Log.{waiting_in}
use Rattle.ledger.specs.Record.{Record, place, is_applied}
use Rattle.book_log.specs.Held.{holds_all}
use Rattle.book_log.specs.Lowest.{lowest_from}
use Rattle.book_log.specs.RowSound.{row_sound}
use Rattle.meaning.specs.Book.{counted_in}

-- the rows and the value stamp are stamps of a house of n screens
unfoldable pub fit_rules : ℕ → List Stamp → Stamp → List Bool
fit_rules n table value = every (stamp_fits n) table ∷ stamp_fits n value ∷ []

-- the known stamp is within the book's room, and no row and not the value stamp exceeds it
unfoldable pub within_rules : Stamp → List Stamp → Stamp → List Bool
within_rules known table value = leb (total known) book_room ∷ every (λ s. at_most s known) table ∷ at_most value
    known ∷ []

-- the log's order, each record alone, each body, and no known record missing
unfoldable pub log_rules : ℕ → Stamp → Stamp → Stamp → Stamp → List Record → List Bool
log_rules n known ready low value log =
    rising place log
    ∷ every (row_sound n known ready low value) log
    ∷ every (λ r. body_fits r.body) log
    ∷ holds_all n low known log
    ∷ []

-- the counted taps' order and fields, those of applied log records among them, and their number
unfoldable pub counted_rules : Stamp → Stamp → List Record → List Tap → List Bool
counted_rules known ready log counted =
    rising fields counted
    ∷ every tap_fits counted
    ∷ every (λ r. not (is_applied ready r) || counted_in counted r) log
    ∷ leb (length counted + length (waiting_in known ready log)) (total known)
    ∷ []

-- what is left once the stamps fit
unfoldable pub region_rules : ℕ → Stamp → Stamp → List Stamp → Stamp → List Record → List Tap → List Standing
    → List Bool
region_rules n known ready table value log counted prompts =
    all (within_rules known table value)
    ∷ all (log_rules n known ready (lowest_from known table) value log)
    ∷ all (counted_rules known ready log counted)
    ∷ same_counts prompts (afresh counted)
    ∷ []

-- all of it; the known stamp is row i of the table, and today the ready stamp is the known stamp
unfoldable pub piece_rules : ℕ → List Stamp → Stamp → List Record → List Tap → List Standing → List Bool
piece_rules i table value log counted prompts =
    all (fit_rules (length table) table value)
    ∷ all (region_rules (length table) (get_or table i []) (get_or table i []) table value log counted prompts)
    ∷ []
