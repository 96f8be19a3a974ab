-- The table of kinds: each kind's number, the widths of its fields, and its field rules. Assumes nothing.
use Rattle.std.specs.Prelude.{ℕ, ◌+◌, ◌*◌, ◌/◌, Bool, true, false, ◌&&◌, ◌||◌, cond, List, [], ◌∷◌, ◌++◌, eqb, leb, ltb}
use Rattle.std.specs.Prelude.{length, get_or, replicate, Result, Ok, Err}
use Rattle.limits.specs.KindNumbers.{head_number, record_number, tap_number, question_number, taken_number}
use Rattle.limits.specs.KindNumbers.{already_number}
use Rattle.limits.specs.KindNumbers.{verdict_number, wait_number, refusal_number, gossip_taken_number, open_number}
use Rattle.limits.specs.KindNumbers.{send_number}
use Rattle.limits.specs.Limits.{parts, prompt_count, log_room}
use Rattle.stamp.specs.Stamp.{Stamp, total, stamp_fits}
use Rattle.stamp.specs.Parts.{parts_at, list_of}
use Rattle.tally.specs.declared.Tap.{Tap}
use Rattle.tally.specs.Body.{body_fits}
use Rattle.tally.specs.Tap.{tap_fits, word_of}
use Rattle.ledger.specs.Record.{Record, is_known, record_fits}
use Rattle.ledger.specs.Message.{in_range}
use Rattle.wire.specs.Says.{Said}
use Rattle.wire.specs.Says as said
use Rattle.wire.specs.declared.Refusal.{Refusal}
use Rattle.wire.specs.declared.Refusal.TheVariants.{Bad}

-- A kind of message. Its line is the kind and then the values of its fields: `rules` judges a line, `said` is what it
-- says.
pub record Kind : Type 0 where
  pub number : ℕ
  pub body : List ℕ
  pub rules : List ℕ → Bool
  pub said : List ℕ → Said

-- the widths of a line, and a message's length: one byte of kind, then the body
abbrev pub widths : Kind → List ℕ
widths k = 1 ∷ k.body

abbrev pub size_of : Kind → ℕ
size_of k = total (widths k)

-- the bytes of a stamp's part, of a bit for each part, and of a tap's five fields
abbrev pub part_width : ℕ
part_width = 4

abbrev pub bits_width : ℕ
bits_width = (parts + 7) / 8

abbrev pub stamp_body : List ℕ
stamp_body = replicate parts part_width

abbrev pub tap_body : List ℕ
tap_body = 1 ∷ 4 ∷ 1 ∷ 2 ∷ 1 ∷ []

-- the stamp and the tap that stand from a place of a line on
abbrev pub stamp_at : ℕ → List ℕ → Stamp
stamp_at a line = list_of (parts_at a line)

abbrev pub tap_at : ℕ → List ℕ → Tap
tap_at a line = record {
  front = get_or line a 0;
  serial = get_or line (a + 1) 0;
  prompt = get_or line (a + 2) 0;
  showing = get_or line (a + 3) 0;
  answer = get_or line (a + 4) 0;
}

-- the kinds' bodies: the widths of their fields
abbrev pub head_body : List ℕ
head_body = 1 ∷ 1 ∷ 2 ∷ stamp_body

abbrev pub record_body : List ℕ
record_body = 1 ∷ 4 ∷ stamp_body ++ tap_body

abbrev pub tap_message_body : List ℕ
tap_message_body = tap_body ++ stamp_body

abbrev pub question_body : List ℕ
question_body = 1 ∷ stamp_body

abbrev pub taken_body : List ℕ
taken_body = stamp_body

abbrev pub already_body : List ℕ
already_body = stamp_body

abbrev pub verdict_body : List ℕ
verdict_body = 1 ∷ 2 ∷ 4 ∷ 4 ∷ stamp_body

abbrev pub wait_body : List ℕ
wait_body = bits_width ∷ []

abbrev pub refusal_body : List ℕ
refusal_body = 1 ∷ []

abbrev pub gossip_taken_body : List ℕ
gossip_taken_body = 2 ∷ 2 ∷ []

abbrev pub open_body : List ℕ
open_body = 1 ∷ 1 ∷ []

abbrev pub send_body : List ℕ
send_body = []

-- N 2..8, sender below N, at most 256 records, stamp parts past N zero
unfoldable pub head_kind : Kind
head_kind =
    record {
      number = head_number;
      body = head_body;
      rules = λ l. in_range (get_or l 1 0) (get_or l 2 0)
          && (leb (get_or l 3 0) log_room && stamp_fits (get_or l 2 0) (stamp_at 4 l));
      said = λ l. said.Head (get_or l 1 0) (get_or l 2 0) (get_or l 3 0) (parts_at 4 l);
    }

-- the record that a line of kind 2 holds
abbrev pub record_in : List ℕ → Record
record_in l = record {
  origin = get_or l 1 0;
  number = get_or l 2 0;
  label = stamp_at 3 l;
  body = word_of (tap_at (3 + parts) l);
}

-- tap fields in range; origin below N, number at least 1, the label's part for the origin below the number, label parts
-- past N zero; number at most m's part for the origin
unfoldable pub record_kind : ℕ → Stamp → Kind
record_kind n m =
    record {
      number = record_number;
      body = record_body;
      rules = λ l. tap_fits (tap_at (3 + parts) l)
          && (record_fits body_fits n (record_in l) && is_known m (record_in l));
      said = λ l. said.Record (get_or l 1 0) (get_or l 2 0) (parts_at 3 l) (tap_at (3 + parts) l);
    }

-- tap fields in range, label parts past the book's N zero (with no book at hand N is the number of parts, and all are
-- free)
unfoldable pub tap_kind : ℕ → Kind
tap_kind n =
    record {
      number = tap_number;
      body = tap_message_body;
      rules = λ l. tap_fits (tap_at 1 l) && stamp_fits n (stamp_at 6 l);
      said = λ l. said.Tap (tap_at 1 l) (parts_at 6 l);
    }

unfoldable pub question_kind : ℕ → Kind
question_kind n =
    record {
      number = question_number;
      body = question_body;
      rules = λ l. ltb (get_or l 1 0) prompt_count && stamp_fits n (stamp_at 2 l);
      said = λ l. said.Question (get_or l 1 0) (parts_at 2 l);
    }

-- replies: all parts are free
unfoldable pub taken_kind : Kind
taken_kind = record {
  number = taken_number;
  body = taken_body;
  rules = λ l. true;
  said = λ l. said.Taken
      (parts_at 1 l);
}

unfoldable pub already_kind : Kind
already_kind = record {
  number = already_number;
  body = already_body;
  rules = λ l. true;
  said = λ l. said.Already (parts_at 1 l);
}

-- Unasked (0), Accepted (1), Declined (2) or Contested (3)
unfoldable pub verdict_kind : Kind
verdict_kind =
    record {
      number = verdict_number;
      body = verdict_body;
      rules = λ l. leb (get_or l 1 0) 3;
      said = λ l. said.Verdict (get_or l 1 0) (get_or l 2 0) (get_or l 3 0) (get_or l 4 0) (parts_at 5 l);
    }

unfoldable pub wait_kind : Kind
wait_kind = record { number = wait_number; body = wait_body; rules = λ l. true; said = λ l. said.Wait (get_or l 1 0) }

-- the refusals of the table: ten is not used
unfoldable pub in_table : ℕ → Bool
in_table k = leb 1 k && leb k 9 || leb 11 k && leb k 12

unfoldable pub refusal_kind : Kind
refusal_kind = record {
  number = refusal_number;
  body = refusal_body;
  rules = λ l. in_table (get_or l 1 0);
  said = λ l. said.Refusal (get_or l 1 0);
}

unfoldable pub gossip_taken_kind : Kind
gossip_taken_kind = record {
  number = gossip_taken_number;
  body = gossip_taken_body;
  rules = λ l. true;
  said = λ l. said.GossipTaken (get_or l 1 0) (get_or l 2 0);
}

-- its fields are judged by refusal 2
unfoldable pub open_kind : Kind
open_kind = record {
  number = open_number;
  body = open_body;
  rules = λ l. true;
  said = λ l. said.Open (get_or l 1 0) (get_or l 2 0);
}

unfoldable pub send_kind : Kind
send_kind = record { number = send_number; body = send_body; rules = λ l. true; said = λ l. said.Send }

-- the kind fixes the body's length
abbrev pub lookup : ℕ → List (ℕ × ℕ) → Result ℕ Refusal
lookup k [] = Err Bad
lookup k (l ∷ t) = cond (eqb k l.0) (Ok l.1) (lookup k t)

abbrev pub bodies : List (ℕ × ℕ)
bodies =
    (head_number, total head_body)
    ∷ (record_number, total record_body)
    ∷ (tap_number, total tap_message_body)
    ∷ (question_number, total question_body)
    ∷ (taken_number, total taken_body)
    ∷ (already_number, total already_body)
    ∷ (verdict_number, total verdict_body)
    ∷ (wait_number, total wait_body)
    ∷ (refusal_number, total refusal_body)
    ∷ (gossip_taken_number, total gossip_taken_body)
    ∷ (open_number, total open_body)
    ∷ (send_number, total send_body)
    ∷ []

unfoldable pub body_by : ℕ → Result ℕ Refusal
body_by k = lookup k bodies

-- how long a message of the kind is, its byte of kind too; 1 where there is no such kind
abbrev pub body_long : Result ℕ Refusal → ℕ
body_long (Ok n) = n
body_long (Err r) = 0

abbrev pub message_long : ℕ → ℕ
message_long k = 1 + body_long (lookup k bodies)

-- lengths with the byte of kind: a gossip's head, a record, the longest message (a head and as many records as a log
-- holds)
abbrev pub head_long : ℕ
head_long = 1 + total head_body

abbrev pub record_long : ℕ
record_long = 1 + total record_body

abbrev pub longest : ℕ
longest = head_long + log_room * record_long

-- the bytes are of this kind and of its length
abbrev pub is_long : Result ℕ Refusal → ℕ → Bool
is_long (Ok n) long = eqb long (1 + n)
is_long (Err r) long = false

unfoldable pub shaped : ℕ → List ℕ → Bool
shaped k bytes = eqb (get_or bytes 0 0) k && is_long (body_by k) (length bytes)
