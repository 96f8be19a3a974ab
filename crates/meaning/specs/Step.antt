-- What happens at a tap, a question and a gossip, and when the screen says no. Assumes nothing.
use Rattle.std.specs.Prelude.{ℕ, suc, ◌+◌, Bool, not, cond, ◌&&◌, ◌||◌, ltb, leb, eqb, set, get_or, length}
use mathlib.Core.List.{List, flat_map, [], ◌∷◌}
use Rattle.std.proofs.Math.Option.{Option, none, some}
use Rattle.lists.specs.Tests.{exists, first_of}
use Rattle.limits.specs.Limits.{prompt_count, book_room, log_room}
use Rattle.stamp.specs.Stamp.{Stamp, merge, part, replace, stamp_fits, total, at_most, excess}
use Rattle.tally.specs.Body.{Body, says, body_word, body_fits, taps_in}
use Rattle.tally.specs.Standing.{counting, among, verdict_of}
use Rattle.tally.specs.Tap.{tap_fits}
use Rattle.tally.specs.declared.Standing.{Standing}
use Rattle.tally.specs.declared.Tap.{Tap}
use Rattle.ledger.specs.Log.{ready_stamp, newly_applied, gathered, merge_all, remaining, unknowns, gapless}
use Rattle.ledger.specs.Message.{in_range, Message, message_fits}
use Rattle.ledger.specs.Record.{Record, stamp_of}
use Rattle.meaning.specs.Book.{Book, known, ready, row, holds, sound, standing_at}
use Rattle.meaning.specs.Reply.{Reply, refusal, already, taken, wait, verdict, gossiped}

-- the answer, and the book that the step leaves
pub record Outcome : Type 0 where
  pub reply : Reply
  pub book : Book

-- A stop is a test with its reply. The reply given is that of the first stop, in order, whose test holds, and the book
-- stays; with none the step is done.
abbrev pub stop_or : Book → Outcome → Option Reply → Outcome
stop_or b out none = out
stop_or b out (some r) = record { reply = r; book = b }

-- The book put in order: the known stamp is now `s`, and the records `new` have come. These become applied:
unfoldable pub now_ready : Book → Stamp → List Record → Stamp
now_ready b s new = ready_stamp s (gathered new b.log)

unfoldable pub now_applied : Book → Stamp → List Record → List Record
now_applied b s new = newly_applied (ready b) (now_ready b s new) (gathered new b.log)

unfoldable pub taps_of : List Record → List Tap
taps_of rs = flat_map (λ r. taps_in r.body) rs

-- each tap of these that is not counted becomes counted, and is noted at its prompt
unfoldable pub now_noted : Book → Stamp → List Record → List Tap × List Standing
now_noted b s new = counting (taps_of (now_applied b s new)) (b.counted, b.prompts)

-- The table is now `rows`. A step adds what becomes applied to the value stamp, counted taps and prompts that it finds.
unfoldable pub settle : Book → List Stamp → List Record → Book
settle b rows new =
    record {
      me = b.me;
      screens = b.screens;
      table = rows;
      value = merge_all (now_applied b (get_or rows b.me []) new) b.value;
      log = remaining (now_ready b (get_or rows b.me []) new) rows (gathered new b.log);
      counted = (now_noted b (get_or rows b.me []) new).0;
      prompts = (now_noted b (get_or rows b.me []) new).1;
    }

-- Open writes the fresh book of screen i of N; `right_length` says whether the lent book has the one fixed length
unfoldable pub open_stops : Bool → ℕ → ℕ → List (Bool × Reply)
open_stops right_length i n =
    -- the lent book is of wrong length
    (not right_length, refusal 11)
    -- N outside 2..8 or i not below N
    ∷ (not (in_range i n), refusal 2)
    ∷ []

-- Taking a body: raise the known stamp's part i by one, make the record, put the book in order, answer Taken
unfoldable pub new_record : Book → Body → Stamp → Record
new_record b x l = record { origin = b.me; number = suc (part (known b) b.me); label = l; body = body_word x }

unfoldable pub own_rows : Book → List Stamp
own_rows b = set b.table b.me (replace (known b) b.me (suc (part (known b) b.me)))

-- the book that taking it leaves
unfoldable pub take_book : Book → Body → Stamp → Book
take_book b x l = settle b (own_rows b) (new_record b x l ∷ [])

abbrev pub take_out : Book → Body → Stamp → Outcome
take_out b x l = record { reply = taken (stamp_of (new_record b x l)); book = take_book b x l }

-- the stamp of the first log record with the tap
abbrev pub first_stamp : Tap → List Record → Stamp
first_stamp t [] = []
first_stamp t (r ∷ rs) = cond (holds t r) (stamp_of r) (first_stamp t rs)

-- label part i exceeds the known stamp's part i
abbrev pub unknown_label : Book → Stamp → Bool
unknown_label b l = ltb (part (known b) b.me) (part l b.me)

unfoldable pub tap_stops : Book → Tap → Stamp → List (Bool × Reply)
tap_stops b t l =
    -- the lent book is unsound
    (not (sound b), refusal 11)
    -- a field rule is broken
    ∷ (not (tap_fits t && stamp_fits b.screens l), refusal 1)
    ∷ (unknown_label b l, refusal 3)
    -- the same tap is counted, or in the log
    ∷ (among b.counted t, already b.value)
    ∷ (exists (holds t) b.log, already (first_stamp t b.log))
    -- 1,024 known
    ∷ (leb book_room (total (known b)), refusal 7)
    -- the log has 256
    ∷ (leb log_room (length b.log), refusal 9)
    ∷ []

unfoldable pub tap_step : Book → Tap → Stamp → Outcome
tap_step b t l = stop_or b (take_out b (says t) l) (first_of (tap_stops b t l))

-- Question on a prompt
unfoldable pub ask_stops : Book → ℕ → Stamp → List (Bool × Reply)
ask_stops b p l =
    -- the lent book is unsound
    (not (sound b), refusal 11)
    -- a field rule is broken
    ∷ (not (ltb p prompt_count && stamp_fits b.screens l), refusal 1)
    ∷ (unknown_label b l, refusal 3)
    -- the value stamp does not cover the label: bit k is set exactly when the label's part k exceeds the value stamp's
    ∷ (not (at_most l b.value), wait (excess l b.value))
    ∷ []

-- verdict, showing, accepts, declines, value stamp
unfoldable pub answer_of : Standing → Stamp → Reply
answer_of s v = verdict (verdict_of s) s.showing s.accepts s.declines v

abbrev pub ask_out : Book → ℕ → Outcome
ask_out b p = record { reply = answer_of (standing_at b p) b.value; book = b }

unfoldable pub ask : Book → ℕ → Stamp → Outcome
ask b p l = stop_or b (ask_out b p) (first_of (ask_stops b p l))

-- Send: the known stamp and the whole log as one gossip message; the book doesn't change
unfoldable pub send : Book → Message
send b = record { sender = b.me; screens = b.screens; stamp = known b; records = b.log }

-- `need` is the length of the message, `room` that of the output
unfoldable pub send_stops : Bool → ℕ → ℕ → List (Bool × Reply)
send_stops is_sound need room =
    -- the lent book is unsound
    (not is_sound, refusal 11)
    -- output shorter than the message
    ∷ (ltb room need, refusal 12)
    ∷ []

-- Gossip from j with stamp m: keep the records not yet known, merge m into the known stamp, set row j to m, apply what
-- is ready, drop what may go
unfoldable pub new_ones : Book → Message → List Record
new_ones b m = unknowns (known b) m.records

unfoldable pub gossip_rows : Book → Message → List Stamp
gossip_rows b m = set (set b.table m.sender m.stamp) b.me (merge (known b) m.stamp)

unfoldable pub gossip_stops : Book → Message → List (Bool × Reply)
gossip_stops b m =
    -- the lent book is unsound
    (not (sound b), refusal 11)
    -- a field rule is broken
    ∷ (not (message_fits body_fits m), refusal 1)
    -- another N than the book's, or j is i
    ∷ (not (eqb m.screens b.screens) || eqb m.sender b.me, refusal 2)
    -- m is at most row j (old)
    ∷ (at_most m.stamp (row b m.sender), refusal 4)
    -- m does not cover row j, and row j does not cover m (crossed)
    ∷ (not (at_most (row b m.sender) m.stamp) && not (at_most m.stamp (row b m.sender)), refusal 5)
    -- part i of m exceeds our own part i
    ∷ (ltb (part (known b) b.me) (part m.stamp b.me), refusal 6)
    -- the parts of the merged stamp sum to over 1,024 (spent)
    ∷ (ltb book_room (total (merge (known b) m.stamp)), refusal 7)
    -- some record with number above our part k and at most m's part k is not in the message (gap)
    ∷ (not (gapless b.screens (known b) m), refusal 8)
    -- log before the step plus new records exceeds 256 (no room)
    ∷ (ltb log_room (length b.log + length (new_ones b m)), refusal 9)
    ∷ []

-- the book that hearing it leaves; the answer gives how many records were new, and how many became applied
unfoldable pub hear_book : Book → Message → Book
hear_book b m = settle b (gossip_rows b m) (new_ones b m)

abbrev pub hear_out : Book → Message → Outcome
hear_out b m =
    record {
      reply = gossiped (length (new_ones b m)) (length (now_applied b (merge (known b) m.stamp) (new_ones b m)));
      book = hear_book b m;
    }

unfoldable pub gossip_step : Book → Message → Outcome
gossip_step b m = stop_or b (hear_out b m) (first_of (gossip_stops b m))
