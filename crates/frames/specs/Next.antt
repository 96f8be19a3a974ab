-- The next message of standard input, as far as it is read. Assumes nothing.
use Rattle.std.specs.Prelude.{ℕ, ◌+◌, ◌*◌, ◌≤◌, ◌≡◌, Bool, true, ◌||◌, cond, List, eqb, leb, ltb, length, get_or}
use Rattle.lists.specs.Tests.{all_below}
use Rattle.limits.specs.Limits.{log_room}
use Rattle.limits.specs.KindNumbers.{head_number, record_number}
use Rattle.wire.specs.Kinds.{head_long, record_long}
use Rattle.frames.specs.declared.Frame.{Frame}
use Rattle.frames.specs.declared.Frame.TheVariants.{More, Whole, Stop}
use Rattle.wire.specs.Head.{count_in}
use Rattle.frames.specs.Frame.{count_end, frame_of}

-- each of the first so many records of a gossip message whose byte of kind is read has its kind
abbrev pub record_stands : List ℕ → ℕ → Bool
record_stands read k =
    let at = head_long + k * record_long in
    leb (length read) at || eqb (get_or read at 0) record_number

abbrev pub records_stand : ℕ → List ℕ → Bool
records_stand count read = all_below count (record_stands read)

-- the count of a gossip message is told and within its limit
abbrev pub Counted : List ℕ → Type 0
Counted read = get_or read 0 0 ≡ head_number → (count_end ≤ length read) × (count_in read ≤ log_room)

-- only gossip holds records
unfoldable pub kinds_stand : List ℕ → Bool
kinds_stand read = cond (eqb (get_or read 0 0) head_number) (records_stand (count_in read) read) true

-- at least so many bytes are needed in all; the first so many are the next message; an unexpected kind, a record's too
-- as soon as that byte is read, or a count above 256 stops the reading
abbrev pub next_by : Frame → List ℕ → Frame
next_by (More n) read = More n
next_by (Whole n) read = cond (kinds_stand read) (cond (ltb (length read) n) (More n) (Whole n)) Stop
next_by Stop read = Stop

unfoldable pub next_of : List ℕ → Bool → Frame
next_of read opened = next_by (frame_of read opened) read
