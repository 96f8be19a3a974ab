-- A gossip message as bytes: a head, then exactly count records, strictly rising by origin, then number. Assumes
-- nothing.
use Rattle.std.specs.Prelude.{ℕ, ◌+◌, ◌*◌, Bool, ◌&&◌, cond, List, ◌∷◌, ◌++◌, map, eqb, length, take, drop}
use Rattle.std.specs.Prelude.{Result, Ok, Err}
use Rattle.lists.specs.Order.{rising}
use Rattle.lists.specs.Rows.{rows, flat}
use Rattle.lists.specs.Tests.{every}
use Rattle.limits.specs.KindNumbers.{head_number, record_number}
use Rattle.limits.specs.Limits.{parts}
use Rattle.tally.specs.Tap.{fields, tap_of}
use Rattle.tally.specs.declared.Tap.{Tap}
use Rattle.ledger.specs.Message.{Message}
use Rattle.ledger.specs.Record.{Record, place}
use Rattle.wire.specs.Head.{head_line, sender_in, screens_in, count_in, stamp_in}
use Rattle.wire.specs.Kinds.{Kind, head_kind, record_kind, record_in, tap_at, head_long, record_long}
use Rattle.wire.specs.Read.{line_of, readable}
use Rattle.wire.specs.Write.{written}
use Rattle.wire.specs.declared.Refusal.{Refusal}
use Rattle.wire.specs.declared.Refusal.TheVariants.{Bad}
use Rattle.wire.specs.Says.{Said}

-- each record is a part of the message from its own first byte; there are count of them
unfoldable pub parts_of : ℕ → List ℕ → List (List ℕ)
parts_of count bytes = rows record_long count (drop head_long bytes)

abbrev pub record_parts : List ℕ → List (List ℕ)
record_parts bytes = parts_of (count_in bytes) bytes

-- the records go by the N and the stamp of the head
abbrev pub records_kind : List ℕ → Kind
records_kind bytes = record_kind (screens_in bytes) (stamp_in bytes)

-- the tap in a record's line stands past the label
abbrev pub tap_in : List ℕ → Tap
tap_in line = tap_at (3 + parts) line

unfoldable pub record_from : Kind → List ℕ → Record
record_from k part = record_in (line_of k part)

unfoldable pub records_in : List ℕ → List Record
records_in bytes = map (record_from (records_kind bytes)) (record_parts bytes)

-- the message that the bytes hold
unfoldable pub message_of : List ℕ → Message
message_of bytes = record
    { sender = sender_in bytes; screens = screens_in bytes; stamp = stamp_in bytes; records = records_in bytes }

-- each part is a record that keeps its rules, and they rise
unfoldable pub in_order : Kind → List (List ℕ) → Bool
in_order k pieces = every (readable k) pieces && rising place (map (record_from k) pieces)

-- the bytes are a gossip message: a head that keeps its rules, the length that its count fixes, and records in order
unfoldable pub well_formed : List ℕ → Bool
well_formed bytes =
    readable head_kind (take head_long bytes)
    && (eqb (length bytes) (head_long + count_in bytes * record_long)
    && in_order (records_kind bytes) (record_parts bytes))

-- what a reader answers: the head, or refusal 1
unfoldable pub read_gossip : List ℕ → Result Said Refusal
read_gossip bytes = cond (well_formed bytes) (Ok (head_kind.said (head_line bytes))) (Err Bad)

-- the one writing of a message: the lines of its head and of each record
unfoldable pub head_of : Message → List ℕ
head_of m = head_number ∷ m.sender ∷ m.screens ∷ length m.records ∷ m.stamp

unfoldable pub line_for : Record → List ℕ
line_for r = record_number ∷ r.origin ∷ r.number ∷ r.label ++ fields (tap_of r.body)

unfoldable pub message_bytes : Message → List ℕ
message_bytes m = written head_kind (head_of m)
    ++ flat (map (λ r. written (record_kind m.screens m.stamp) (line_for r)) m.records)
