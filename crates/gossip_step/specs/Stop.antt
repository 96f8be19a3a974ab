-- What a gossip on a book is stopped with, before any word changes. Assumes nothing.
use Rattle.std.specs.Prelude.{◌≡◌, length, Result, Ok, Err}
use Rattle.std.proofs.Math.Option.{none, some}
use Rattle.lists.specs.Tests.{first_of}
use Rattle.wire.specs.declared.Head.{Head}
use Rattle.ledger.specs.Message.{Message}
use Rattle.meaning.specs.Book.{Book}
use Rattle.meaning.specs.Step.{new_ones, gossip_stops}
use Rattle.promise.specs.Spoken.{spoken}
use Rattle.promise.specs.declared.Reply as answer
use Rattle.gossip_step.specs.declared.Incoming.{Incoming}

-- a gossip that may be taken, or the reply that stops it
abbrev pub GossipStop : Type 0
GossipStop = Result Incoming answer.Reply

-- the reply of the first stop whose test holds; with none the head is handed on, and how many records are new
abbrev pub StopsGossip : Book → Message → Head → GossipStop → Type 0
StopsGossip b m h (Err r) = first_of (gossip_stops b m) ≡ some (spoken r)
StopsGossip b m h (Ok i) = (first_of (gossip_stops b m) ≡ none) × (i.head ≡ h) × (i.new ≡ length (new_ones b m))
