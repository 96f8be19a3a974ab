-- Laws: what the reader's answer tells of a whole gossip message. Assumes nothing.
--     well-head, well-long, well-order   a well formed message has a head, its length, and records in order
--     head_in          the head's values are what its reader says
--     gossip-told      a message says that the bytes are well formed, and is the head's
--     gossip-unread    a refusal says that they are not
--     gossip-untold    so does any answer that is not the message
use Rattle.std.specs.Prelude.{ℕ, ◌+◌, ◌*◌, ◌≡◌, ◌≢◌, false, ◌&&◌, List, ◌∷◌, T, eqb, length, take, Result, Ok, Err}
use Rattle.std.proofs.Common.{ap, ◌∙◌, eqb→eq}
use Rattle.lists.specs.TestLaws.{and_l, and_r, is_true}
use Rattle.stamp.specs.declared.Parts.{Parts}
use Rattle.stamp.specs.Parts.{list_of}
use Rattle.wire.specs.Kinds.{head_kind, head_long, record_long}
use Rattle.wire.proofs.Laws.{lawful-head}
use Rattle.wire.specs.Read.{readable, read_as}
use Rattle.wire.proofs.ReadLaws.{answered, unanswered, not-answered, told_line}
use Rattle.wire.specs.declared.Refusal.{Refusal}
use Rattle.wire.specs.declared.Refusal.TheVariants.{Bad}
use Rattle.wire.specs.Says.{Said}
use Rattle.wire.specs.Says as said
use Rattle.wire.specs.Head.{head_line, count_in}
use Rattle.message.specs.Message.{record_parts, records_kind, in_order, well_formed, read_gossip}

module _ (bytes : List ℕ) (w : T (well_formed bytes)) where
  pub well-head : T (readable head_kind (take head_long bytes))
  unfolding well_formed
  well-head = and_l (readable head_kind (take head_long bytes))
      (eqb (length bytes) (head_long + count_in bytes * record_long)
      && in_order (records_kind bytes) (record_parts bytes)) w

  later : T (eqb (length bytes) (head_long + count_in bytes * record_long)
      && in_order (records_kind bytes) (record_parts bytes))
  unfolding well_formed
  later = and_r (readable head_kind (take head_long bytes))
      (eqb (length bytes) (head_long + count_in bytes * record_long)
      && in_order (records_kind bytes) (record_parts bytes)) w

  pub well-long : length bytes ≡ head_long + count_in bytes * record_long
  well-long = eqb→eq (length bytes) (head_long + count_in bytes * record_long)
      (and_l (eqb (length bytes) (head_long + count_in bytes * record_long))
      (in_order (records_kind bytes) (record_parts bytes)) later)

  pub well-order : T (in_order (records_kind bytes) (record_parts bytes))
  well-order = and_r (eqb (length bytes) (head_long + count_in bytes * record_long))
      (in_order (records_kind bytes) (record_parts bytes)) later

module _ (bytes : List ℕ) (sender screens count : ℕ) (stamp : Parts)
    (read : Ok (said.Head sender screens count stamp) ≡ read_as head_kind (take head_long bytes)) where
  pub head_in : head_line bytes ≡ 1 ∷ sender ∷ screens ∷ count ∷ list_of stamp
  unfolding head_line
  head_in = told_line head_kind (take head_long bytes) (said.Head sender screens count stamp) read lawful-head

  pub head-count : count_in bytes ≡ count
  head-count = rw head_in

-- what a reader's answer tells
module _ (bytes : List ℕ) where
  pub gossip-told : (v : Said) → Ok v ≡ read_gossip bytes
      → T (well_formed bytes) × (Ok v ≡ read_as head_kind (take head_long bytes))
  unfolding read_gossip read_as head_line
  gossip-told v read =
      let t = answered (well_formed bytes) (head_kind.said (head_line bytes)) v read in
      (t.0, ap Ok t.1 ∙ rw (is_true (readable head_kind (take head_long bytes)) (well-head bytes t.0)))

  pub gossip-unread : (r : Refusal) → Err r ≡ read_gossip bytes → (well_formed bytes ≡ false) × (r ≡ Bad)
  unfolding read_gossip
  gossip-unread = unanswered (well_formed bytes) (head_kind.said (head_line bytes))

  pub gossip-untold : (v : Result Said Refusal) → v ≡ read_gossip bytes → v ≢ Ok (head_kind.said (head_line bytes))
      → well_formed bytes ≡ false
  unfolding read_gossip
  gossip-untold = not-answered (well_formed bytes) (head_kind.said (head_line bytes))
