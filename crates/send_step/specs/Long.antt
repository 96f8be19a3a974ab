-- Laws: the parts of a message one after the other are the whole of it. Assumes nothing.
--     record-long      each record has its 47 bytes
--     whole-message    the head and then the records are the message
--     next_record      one record more
--     no_record_lem        past the last record
use Prim.Native.Nat.{ℕ, ◌+◌, ◌*◌, ◌≤◌, ◌<◌}
use Rattle.std.proofs.Common.{add-one, arith, ap, ◌∙◌, drop_of_length-le, take-append-drop, take_at, drop_at, drop-drop}
use Rattle.std.proofs.Common.{drop-cons}
use Rattle.std.specs.Prelude.{◌≡◌, T, get_or, take, drop}
use Rattle.std.proofs.Math.Path.{sym, ap₂}
use mathlib.Core.List.{List, ◌++◌, map, append_assoc}
use Rattle.std.proofs.Math.ListN.{length}
use Rattle.lists.specs.TestLaws.{◌∈◌}
use Rattle.lists.specs.Part.{patch, take-patch, drop_past}
use Rattle.lists.specs.Rows.{flat}
use Rattle.tally.specs.Body.{body_fits}
use Rattle.ledger.specs.Message.{Message, message_fits}
use Rattle.ledger.specs.Record.{Record}
use Rattle.wire.specs.Kinds.{head_kind, record_kind, head_long, record_long}
use Rattle.wire.proofs.Laws.{length-written}
use Rattle.wire.specs.Write.{written}
use Rattle.message.specs.Message.{head_of, line_for, message_bytes}
use Rattle.message.proofs.MessageLaws.{head-long, records-writable, length-bytes-of}
use Rattle.send_step.specs.Parts.{record_bytes, start_at, with_head, with_records}

module _ (m : Message) (h : T (message_fits body_fits m)) where
  pub record-long : (r : Record) → r ∈ m.records → length (record_bytes m r) ≡ record_long
  unfolding record_bytes record_kind
  record-long r i = length-written (record_kind m.screens m.stamp) (line_for r) (records-writable m h r i)

  pub whole-message : (out : List ℕ)
      → with_records m m.records head_long (start_at (length m.records)) (with_head m out)
      ≡ message_bytes m ++ drop (length (message_bytes m)) out
  unfolding with_records with_head message_bytes record_bytes
  whole-message out =
      ap₂ ◌++◌ (take_at (written head_kind (head_of m)) (drop head_long out) head_long (head-long m h))
      (ap (λ (l : List ℕ). flat (map (record_bytes m) m.records) ++ l) past)
      ∙ sym (append_assoc (written head_kind (head_of m)) (flat (map (record_bytes m) m.records))
      (drop (length (message_bytes m)) out))
    where
      count : ℕ
      count = length m.records * record_long

      past : drop (head_long + count) (written head_kind (head_of m) ++ drop head_long out)
          ≡ drop (length (message_bytes m)) out
      past =
          sym (drop-drop count head_long (written head_kind (head_of m) ++ drop head_long out))
          ∙ ap (drop count) (drop_at (written head_kind (head_of m)) (drop head_long out) head_long (head-long m h))
          ∙ drop-drop count head_long out
          ∙ ap (λ (k : ℕ). drop k out) (sym (length-bytes-of m h))

-- one turn of the pass over the records: the i-th is put at its place
pub next_record :
    (m : Message) (rs : List Record) (out : List ℕ) (i at end : ℕ) (d : Record) → i < length rs
    → length (record_bytes m (get_or rs i d)) ≡ record_long
    → at + record_long ≤ end → end ≤ length out
    → with_records m (drop i rs) at end out
    ≡ with_records m (drop (i + 1) rs) (at + record_long) end
    (patch at record_long out (record_bytes m (get_or rs i d)))
unfolding with_records flat
next_record m rs out i at end d l n u v =
    let ys = record_bytes m (get_or rs i d) in
    let fits : at + record_long ≤ length out = omega arith in
    rw (
      add-one,
      drop-cons rs i d l,
      append_assoc ys,
      take-patch at record_long out ys fits n,
      drop_past at record_long out ys fits n end u,
      append_assoc (take at out) ys,
    )

pub no_record_lem : (m : Message) (rs : List Record) (out : List ℕ) (i end : ℕ) → length rs ≤ i
    → with_records m (drop i rs) end end out ≡ out
unfolding with_records flat
no_record_lem m rs out i end h = rw (drop_of_length-le rs h) (take-append-drop end out)
