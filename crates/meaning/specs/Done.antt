-- What is seen to before a body is taken or a gossip is heard, when nothing stops it. Assumes nothing.
use Prim.Native.Nat.{◌≤◌, ◌<◌, ◌+◌}
use Rattle.std.specs.Prelude.{◌≡◌, ◌≢◌, not, length}
use Rattle.std.proofs.Math.Dec.{T}
use Rattle.lists.specs.TestLaws.{◌∈◌}
use Rattle.lists.specs.Tests.{exists}
use Rattle.limits.specs.Limits.{book_room, log_room}
use Rattle.stamp.specs.Laws.{Covers}
use Rattle.stamp.specs.Stamp.{Stamp, stamp_fits, part, total, merge}
use Rattle.tally.specs.Body.{Body, said_fits, taps_said, body_fits}
use Rattle.tally.specs.Standing.{among}
use Rattle.tally.specs.declared.Tap.{Tap}
use Rattle.ledger.specs.Log.{gapless}
use Rattle.ledger.specs.Message.{Message}
use Rattle.ledger.specs.Readable.{Readable}
use Rattle.meaning.specs.Book.{Book, known, holds, row}
use Rattle.meaning.specs.BookLaws.{Sound}
use Rattle.meaning.specs.Step.{new_ones}

-- What is seen to before a tap is taken: it is not counted and not in the log ..
pub record Unheld (b : Book) (t : Tap) : Type 0 where
  pub not-counted : T (not (among b.counted t))
  pub not-logged : T (not (exists (holds t) b.log))

-- .. and of any body
pub record TakeDone (b : Book) (x : Body) (l : Stamp) : Type 0 where
  pub sound-before : Sound b
  pub said_fits_lem : T (said_fits x)
  pub label-fits : T (stamp_fits b.screens l)
  pub own : part l b.me ≤ part (known b) b.me
  pub unheld : (t : Tap) → t ∈ taps_said x → Unheld b t
  pub book-left : total (known b) < book_room
  pub log-left : length b.log < log_room

-- Gossip: what is seen to when nothing stops it
pub record GossipDone (b : Book) (m : Message) : Type 0 where
  pub sound-before : Sound b
  pub rules : Readable body_fits m
  pub house : m.screens ≡ b.screens
  pub other : m.sender ≢ b.me
  pub newer : Covers m.stamp (row b m.sender)
  pub own : part m.stamp b.me ≤ part (known b) b.me
  pub unspent : total (merge (known b) m.stamp) ≤ book_room
  pub whole : T (gapless b.screens (known b) m)
  pub room : length b.log + length (new_ones b m) ≤ log_room
