-- How many bytes the next message of standard input has, given what is read so far. Assumes nothing.
use Rattle.std.specs.Prelude.{ℕ, ◌+◌, ◌*◌, Bool, cond, List, [], ◌∷◌, eqb, ltb, length}
use Rattle.limits.specs.Limits.{log_room}
use Rattle.limits.specs.KindNumbers.{head_number, open_number}
use Rattle.wire.specs.Head.{count_in}
use Rattle.wire.specs.Kinds.{body_by, head_long, record_long}
use Rattle.wire.specs.Requests.{is_request}
use Rattle.std.specs.Prelude.{Result, Ok, Err}
use Rattle.wire.specs.declared.Refusal.{Refusal}
use Rattle.frames.specs.declared.Frame.{Frame}
use Rattle.frames.specs.declared.Frame.TheVariants.{More, Whole, Stop}

-- one kind 11, then requests: any other kind is unexpected (a record's too)
unfoldable pub expected : Bool → ℕ → Bool
expected opened k = cond opened (is_request k) (eqb k open_number)

-- a head is kind, sender, N and then its record count: so many bytes tell it
abbrev pub count_end : ℕ
count_end = 1 + 1 + 1 + 2

-- a gossip message is a head and then exactly count records, at most 256
unfoldable pub gossip_frame : List ℕ → Frame
gossip_frame read =
    cond (ltb (length read) count_end) (More count_end)
    (cond (ltb log_room (count_in read)) Stop (Whole (head_long + count_in read * record_long)))

-- of every other kind: one byte of kind, and the kind fixes the body's length
abbrev pub body_frame : Result ℕ Refusal → Frame
body_frame (Ok n) = Whole (1 + n)
body_frame (Err r) = Stop

abbrev pub kind_frame : ℕ → List ℕ → Frame
kind_frame k read = cond (eqb k head_number) (gossip_frame read) (body_frame (body_by k))

-- nothing read tells nothing; an unexpected kind and a count above 256 stop the reading
unfoldable pub frame_of : List ℕ → Bool → Frame
frame_of [] opened = More 1
frame_of (k ∷ rest) opened = cond (expected opened k) (kind_frame k (k ∷ rest)) Stop
