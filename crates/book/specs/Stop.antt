-- What stops a tap or a gossip on lent words, judged before any of them changes. Assumes nothing.
use Rattle.std.specs.Prelude.{◌≡◌, List, ℕ, length, Ok, Err}
use Rattle.std.proofs.Math.Option.{none, some}
use Rattle.stamp.specs.Parts.{parts_at}
use Rattle.wire.specs.Kinds.{tap_kind, tap_at}
use Rattle.wire.specs.Read.{line_of}
use Rattle.message.specs.Message.{message_of}
use Rattle.meaning.specs.Step.{new_ones}
use Rattle.lent.specs.Words.{book_of}
use Rattle.promise.specs.Lent.{tap_stop, gossip_stop}
use Rattle.promise.specs.Spoken.{spoken}
use Rattle.tap_step.specs.Stop.{TapStop}
use Rattle.gossip_step.specs.Heard.{Hears}
use Rattle.gossip_step.specs.Stop.{GossipStop}

-- a tap's stop; with none, the tap and the label that the bytes hold
abbrev pub TapStopOn : List ℕ → List ℕ → TapStop → Type 0
TapStopOn ws bytes (Err r) = tap_stop ws bytes ≡ some (spoken r)
TapStopOn ws bytes (Ok a) =
    let line = line_of (tap_kind (book_of ws).screens) bytes in
    (tap_stop ws bytes ≡ none) × (a.tap ≡ tap_at 1 line) × (a.label ≡ parts_at 6 line)

-- a gossip's stop; with none, what the message's head says, and how many of its records are new
abbrev pub GossipStopOn : List ℕ → List ℕ → GossipStop → Type 0
GossipStopOn ws bytes (Err r) = gossip_stop ws bytes ≡ some (spoken r)
GossipStopOn ws bytes (Ok i) =
    (gossip_stop ws bytes ≡ none) × Hears bytes i.head × (i.new ≡ length (new_ones (book_of ws) (message_of bytes)))
