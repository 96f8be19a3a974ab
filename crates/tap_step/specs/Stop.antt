-- What a tap on a book is stopped with, before any word changes. Assumes nothing.
use Rattle.std.specs.Prelude.{◌≡◌, Result, Ok, Err}
use Rattle.std.proofs.Math.Option.{none, some}
use Rattle.lists.specs.Tests.{first_of}
use Rattle.stamp.specs.Parts.{list_of}
use Rattle.wire.specs.declared.TapRequest.{TapRequest}
use Rattle.meaning.specs.Book.{Book}
use Rattle.meaning.specs.Step.{tap_stops}
use Rattle.promise.specs.Spoken.{spoken}
use Rattle.promise.specs.declared.Reply as answer

-- a tap that may be taken, or the reply that stops it
abbrev pub TapStop : Type 0
TapStop = Result TapRequest answer.Reply

-- the reply of the first stop whose test holds; with none the tap is handed on
abbrev pub StopsTap : Book → TapRequest → TapStop → Type 0
StopsTap b a (Err r) = first_of (tap_stops b a.tap (list_of a.label)) ≡ some (spoken r)
StopsTap b a (Ok t) = (first_of (tap_stops b a.tap (list_of a.label)) ≡ none) × (t ≡ a)
