-- The book of a screen, when it is sound, and the fresh book. Assumes nothing.
use Rattle.std.specs.Prelude.{ℕ, ◌+◌, Bool, not, ◌||◌, List, [], ◌∷◌, eqb, leb, get_or, replicate, length}
use Rattle.lists.specs.Order.{rising}
use Rattle.lists.specs.Tests.{every, all}
use Rattle.limits.specs.Limits.{log_room, book_room}
use Rattle.stamp.specs.Stamp.{Stamp, zeros, stamp_fits, total, at_most}
use Rattle.tally.specs.Body.{taps_in, body_fits}
use Rattle.tally.specs.Standing.{blank, afresh, among, same_counts}
use Rattle.tally.specs.Tap.{fields, tap_fits}
use Rattle.tally.specs.declared.Standing.{Standing}
use Rattle.tally.specs.declared.Tap.{Tap}
use Rattle.ledger.specs.Log.{ready_stamp, waiting_in, all_held}
use Rattle.ledger.specs.Message.{in_range}
use Rattle.ledger.specs.Record.{Record, place, is_known, record_fits, may_go, is_applied, stamp_of}

-- The book of screen i (`me`) of N (`screens`) holds:
pub record Book : Type 0 where
  pub me : ℕ
  pub screens : ℕ
  -- the table, a row per screen; row i is the known stamp, which is held there alone
  pub table : List Stamp
  -- the value stamp: the merge of the stamps of all applied records, zero if none
  pub value : Stamp
  -- the log, at most 256 records, by origin, then number
  pub log : List Record
  -- the counted taps, in order of the five fields
  pub counted : List Tap
  -- for each prompt the highest showing among its counted taps (0 if none), and how many of that showing are accepts
  -- and declines
  pub prompts : List Standing

-- row j, and the known stamp: part k says how many of screen k's records are known here, always the first so many
unfoldable pub row : Book → ℕ → Stamp
row b j = get_or b.table j []

unfoldable pub known : Book → Stamp
known b = row b b.me

-- the ready stamp: a record is applied here under it
unfoldable pub ready : Book → Stamp
ready b = ready_stamp (known b) b.log

-- showing, accepts and declines of a prompt
unfoldable pub standing_at : Book → ℕ → Standing
standing_at b p = get_or b.prompts p blank

-- the log's waiting records: no others wait
unfoldable pub waiting : Book → List Record
waiting b = waiting_in (known b) (ready b) b.log

-- Open writes the fresh book of screen i of N
unfoldable pub fresh : ℕ → ℕ → Book
fresh i n = record {
  me = i;
  screens = n;
  table = replicate n zeros;
  value = zeros;
  log = [];
  counted = [];
  prompts = afresh [];
}

-- the record has the tap; its taps are all among some taps
unfoldable pub holds : Tap → Record → Bool
holds t r = among (taps_in r.body) t

unfoldable pub counted_in : List Tap → Record → Bool
counted_in ts r = every (among ts) (taps_in r.body)

-- A lent book is sound exactly when:
unfoldable pub clauses : Book → List Bool
clauses b =
    -- i and N are in range and all orders, limits and zeros hold
    in_range b.me b.screens
    ∷ eqb (length b.table) b.screens
    ∷ every (stamp_fits b.screens) b.table
    ∷ stamp_fits b.screens b.value
    ∷ rising place b.log
    ∷ rising fields b.counted
    ∷ every tap_fits b.counted
    ∷ leb (length b.log) log_room
    ∷ leb (total (known b)) book_room
    -- row i is the known stamp (it is held once) and no row exceeds it
    ∷ every (λ s. at_most s (known b)) b.table
    -- log records are known and obey the wire's field rules
    ∷ every (is_known (known b)) b.log
    ∷ every (record_fits body_fits b.screens) b.log
    -- every known record is in the log or known everywhere, and none in the log is both applied and known everywhere
    ∷ all_held b.screens (known b) b.table b.log
    ∷ every (λ r. not (may_go (ready b) b.table r)) b.log
    -- each applied log record's tap is counted
    ∷ every (λ r. not (is_applied (ready b) r) || counted_in b.counted r) b.log
    -- counted taps, and each prompt's two counts together, number at most the known records less the waiting ones
    ∷ leb (length b.counted + length (waiting b)) (total (known b))
    ∷ every (λ s. leb (s.accepts + s.declines + length (waiting b)) (total (known b))) b.prompts
    -- counts follow from counted taps
    ∷ same_counts b.prompts (afresh b.counted)
    -- the value stamp is at most the known stamp and covers each applied log record's stamp
    ∷ at_most b.value (known b)
    ∷ every (λ r. not (is_applied (ready b) r) || at_most (stamp_of r) b.value) b.log
    ∷ []

unfoldable pub sound : Book → Bool
sound b = all (clauses b)
