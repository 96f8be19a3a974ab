-- A well formed message with its head as it was read, and its records one by one. Assumes nothing.
use Rattle.std.specs.Prelude.{ℕ, ◌≡◌, List, T}
use Rattle.stamp.specs.Stamp.{Stamp}
use Rattle.ledger.specs.Record.{Record}
use Rattle.message.specs.Find.{part_at}
use Rattle.wire.specs.Head.{screens_in, stamp_in}
use Rattle.message.specs.Message.{records_kind, record_from, well_formed}

-- the bytes are a message whose head has n screens and stamp m
pub record Head (bytes : List ℕ) (n : ℕ) (m : Stamp) : Type 0 where
  pub formed : T (well_formed bytes)
  pub screens : screens_in bytes ≡ n
  pub stamp : stamp_in bytes ≡ m

-- record i of the message
unfoldable pub record_no : List ℕ → ℕ → Record
record_no bytes i = record_from (records_kind bytes) (part_at i bytes)
