-- A reply as bytes: the kind of message that says it, and its one writing. Assumes nothing.
use Rattle.std.specs.Prelude.{ℕ, Bool, List, get_or}
use Rattle.wire.specs.Kinds.{Kind, taken_kind, already_kind, verdict_kind, wait_kind, refusal_kind, gossip_taken_kind}
use Rattle.wire.specs.Kinds.{message_long}
use Rattle.wire.specs.Write.{Output, writable, written, write_as}
use Rattle.wire.specs.Refusal.{table_number}
use Rattle.wire.specs.declared.Refusal.{Refusal}
use Rattle.wire.specs.Says.{Said, verdict_says, gossip_taken_says}
use Rattle.wire.specs.Says as said
use Rattle.meaning.specs.Reply.{Reply, taken, already, verdict, wait, refusal, gossiped, figures}
use Rattle.promise.specs.declared.Reply as answer
use Rattle.promise.specs.declared.Reply.TheVariants as says

-- kinds 5 to 10
abbrev pub kind_of : Reply → Kind
kind_of (taken s) = taken_kind
kind_of (already s) = already_kind
kind_of (verdict v h a d s) = verdict_kind
kind_of (wait bits) = wait_kind
kind_of (refusal k) = refusal_kind
kind_of (gossiped new applied) = gossip_taken_kind

-- each value is in its width, and the field rules are kept: a writer takes it
abbrev pub sayable : Reply → Bool
sayable r = writable (kind_of r) (figures r)

unfoldable pub bytes_for : Reply → List ℕ
bytes_for r = written (kind_of r) (figures r)

-- a refusal's bytes: 09, and its number in the table
abbrev pub refusal_bytes : Refusal → List ℕ
refusal_bytes r = bytes_for (refusal (table_number r))

-- how long they are, by the kind's number
abbrev pub long_of : Reply → ℕ
long_of r = message_long (get_or (figures r) 0 0)

-- at the front of an output: 1 where it is not sayable, then 12 where the output is shorter
unfoldable pub say_on : Reply → List ℕ → Output
say_on r out = write_as (kind_of r) (figures r) out

-- the message of the wire that says an answer
abbrev pub said_of : answer.Reply → Said
said_of (says.Taken s) = said.Taken s
said_of (says.Already s) = said.Already s
said_of (says.Verdict v) = verdict_says v
said_of (says.Wait bits) = said.Wait bits
said_of (says.Refused k) = said.Refusal k
said_of (says.Gossiped g) = gossip_taken_says g
