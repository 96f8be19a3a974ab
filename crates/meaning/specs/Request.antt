-- What a screen is asked and answers with a reply, and the one step that it makes on its book. Assumes nothing.
--     step_by   the step is the first of its stops, or what the request comes to
use Rattle.std.specs.Prelude.{ℕ, ◌≡◌, refl, Bool, List, [], ◌∷◌}
use Rattle.lists.specs.Tests.{first_of}
use Rattle.stamp.specs.Stamp.{Stamp}
use Rattle.tally.specs.Body.{says}
use Rattle.tally.specs.declared.Tap.{Tap}
use Rattle.ledger.specs.Message.{Message}
use Rattle.ledger.specs.Record.{Record}
use Rattle.meaning.specs.Book.{Book}
use Rattle.meaning.specs.Reply.{Reply}
use Rattle.meaning.specs.Step.{Outcome, stop_or, tap_stops, tap_step, new_record, take_out, ask_stops, ask, ask_out}
use Rattle.meaning.specs.Step.{gossip_stops, gossip_step, hear_out}

-- a tap and a question, each with its label, and a gossip message
pub data Request : Type 0 where
  tapped : Tap → Stamp → Request
  asked : ℕ → Stamp → Request
  told : Message → Request

-- what stops it, in order
abbrev pub stops : Book → Request → List (Bool × Reply)
stops b (tapped t l) = tap_stops b t l
stops b (asked p l) = ask_stops b p l
stops b (told m) = gossip_stops b m

-- the records that it makes where it is taken
abbrev pub makes : Book → Request → List Record
makes b (tapped t l) = new_record b (says t) l ∷ []
makes b (asked p l) = []
makes b (told m) = []

-- what it comes to where nothing stops it
abbrev pub outcome : Book → Request → Outcome
outcome b (tapped t l) = take_out b (says t) l
outcome b (asked p l) = ask_out b p
outcome b (told m) = hear_out b m

-- what it is answered, and the book that it leaves
abbrev pub step : Book → Request → Outcome
step b (tapped t l) = tap_step b t l
step b (asked p l) = ask b p l
step b (told m) = gossip_step b m

pub step_by : (b : Book) (r : Request) → step b r ≡ stop_or b (outcome b r) (first_of (stops b r))
unfolding tap_step ask gossip_step
step_by b (tapped t l) = refl
step_by b (asked p l) = refl
step_by b (told m) = refl
