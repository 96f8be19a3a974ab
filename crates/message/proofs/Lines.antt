-- What `read_gossip` has settled where it returns. Assumes nothing.
use Prim.Native.Nat.{ℕ, ◌+◌, ◌*◌, ◌≤◌, ◌<◌}
use native.Mathlib.Omega.{arith}
use mathlib.Core.Path.{◌≡◌}
use mathlib.Core.Bool.{true, false}
use mathlib.Core.List.{List}
use lib.Dec.{leb→le}
use lib.ListN.{length, take, length-take}
use borrow.Author.Tests.{eq-eqb, ne_eqb}
use Rattle.lists.specs.TestLaws.{is_true, is_false, not-from}
use Rattle.limits.specs.Limits.{log_room}
use Rattle.stamp.specs.declared.Parts.{Parts}
use Rattle.stamp.specs.Parts.{list_of, parts_at}
use Rattle.wire.specs.Kinds.{head_kind, record_kind, head_long, record_long}
use Rattle.wire.proofs.Laws.{length-readable, lawful-head}
use Rattle.wire.specs.Read.{readable, read_as}
use Rattle.wire.proofs.ReadLaws.{told}
use Rattle.wire.specs.declared.Refusal.TheVariants.{Bad}
use Rattle.wire.specs.Says as said
use Rattle.std.specs.Prelude.{Ok, Err}
use Rattle.wire.specs.Head.{head_line, count_in}
use Rattle.message.specs.Message.{parts_of, in_order, well_formed, read_gossip}
use Rattle.message.specs.Parts.{head-rules}
use Rattle.message.specs.Told.{head_in, head-count}

pub headless : (bytes : List ℕ) → readable head_kind (take head_long bytes) ≡ false → Err Bad
    ≡ read_gossip bytes
unfolding read_gossip well_formed
headless bytes e = rw e

pub too_short : (bytes : List ℕ) → length bytes < head_long → Err Bad ≡ read_gossip bytes
unfolding head_kind
too_short bytes h =
    headless bytes (is_false (readable head_kind (take head_long bytes))
    (not-from (readable head_kind (take head_long bytes))
    (λ r. omega (arith, length-readable head_kind lawful-head (take head_long bytes) r, length-take head_long bytes))))

module _ (bytes : List ℕ) (sender screens count : ℕ) (stamp : Parts)
    (read : Ok (said.Head sender screens count stamp) ≡ read_as head_kind (take head_long bytes)) where
  has-head : readable head_kind (take head_long bytes) ≡ true
  has-head = is_true (readable head_kind (take head_long bytes))
      (told head_kind (take head_long bytes) (said.Head sender screens count stamp) read).0

  -- no more records than a log holds
  pub few : count ≤ log_room
  unfolding head_line
  few =
      let t = told head_kind (take head_long bytes) (said.Head sender screens count stamp) read in
      let kept = leb→le (count_in bytes) log_room (head-rules (take head_long bytes) t.0).1 in
      omega (arith, kept, head-count bytes sender screens count stamp read)

  pub wrong-long : (length bytes ≡ head_long + count * record_long → ⊥) → Err Bad ≡ read_gossip bytes
  unfolding read_gossip well_formed
  wrong-long n = rw (
    has-head,
    head_in bytes sender screens count stamp read,
    ne_eqb (length bytes) (head_long + count * record_long) n,
  )

  module _ (long : length bytes ≡ head_long + count * record_long) where
    pub disorder : in_order (record_kind screens (list_of stamp)) (parts_of count bytes) ≡ false
        → Err Bad ≡ read_gossip bytes
    unfolding read_gossip well_formed parts_at list_of
    disorder e = rw (
      has-head,
      head_in bytes sender screens count stamp read,
      eq-eqb (length bytes) (head_long + count * record_long) long,
      e,
    )

    pub whole : in_order (record_kind screens (list_of stamp)) (parts_of count bytes) ≡ true
        → Ok (said.Head sender screens count stamp) ≡ read_gossip bytes
    unfolding read_gossip well_formed parts_at list_of head_kind
    whole e = rw (
      has-head,
      head_in bytes sender screens count stamp read,
      eq-eqb (length bytes) (head_long + count * record_long) long,
      e,
    )
