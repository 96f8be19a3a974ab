-- A message at the front of an output, part by part: the head, then the records behind it. Assumes nothing.
use Rattle.std.specs.Prelude.{ℕ, ◌+◌, ◌*◌, List, ◌++◌, map, take, drop}
use Rattle.lists.specs.Rows.{flat}
use Rattle.ledger.specs.Message.{Message}
use Rattle.ledger.specs.Record.{Record}
use Rattle.wire.specs.Kinds.{head_kind, record_kind, head_long, record_long}
use Rattle.wire.specs.Write.{written}
use Rattle.message.specs.Message.{head_of, line_for}

-- a record's bytes in a message
unfoldable pub record_bytes : Message → Record → List ℕ
record_bytes m r = written (record_kind m.screens m.stamp) (line_for r)

-- where the i-th record starts, and where a message of i records ends
abbrev pub start_at : ℕ → ℕ
start_at i = head_long + i * record_long

-- the head at the front of an output
unfoldable pub with_head : Message → List ℕ → List ℕ
with_head m out = written head_kind (head_of m) ++ drop head_long out

-- some records of a message from a place of an output on, up to a message's end
unfoldable pub with_records : Message → List Record → ℕ → ℕ → List ℕ → List ℕ
with_records m rs at end out = take at out ++ (flat (map (record_bytes m) rs) ++ drop end out)
