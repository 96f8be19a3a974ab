-- The runs of a house that a host drives by `answer` alone, each step one call with any bytes and any output, and what
-- holds of them. Assumes nothing.
use Rattle.std.specs.Prelude.{ℕ, ◌<◌, ◌≡◌, ◌⊎◌, cond, T, eqb, length, take}
use mathlib.Core.List.{List, [], ◌∷◌, ◌++◌, Memᴰ}
use Rattle.ledger.specs.Record.{Record}
use Rattle.limits.specs.KindNumbers.{head_number, taken_number}
use Rattle.message.specs.Message.{well_formed}
use Rattle.lent.specs.Words.{book_long}
use Rattle.promise.specs.Lent.{Entry}
use Rattle.answer.specs.Answer.{kind_in, entry_line, entries, kind_said, answer_on}
use Rattle.house.specs.House.{put, Step}
use Rattle.house.specs.LentHouse.{LentHouse, open_lent, made_by, held, LentDemand}

-- the records that bytes make where they are taken, by the entry of their kind
abbrev pub made_in : List Entry → List ℕ → List ℕ → List Record
made_in [] ws bytes = []
made_in (e ∷ es) ws bytes = cond (eqb (kind_in bytes) (entry_line e).number) (made_by e ws bytes) (made_in es ws bytes)

-- after a call on screen i: a reply of kind 1 is gossip that the screen has sent, a reply of kind 5 says that the bytes
-- are taken
unfoldable pub after_call : LentHouse → ℕ → List ℕ → List ℕ → LentHouse
after_call h i bytes out =
    let a = answer_on (h.words i) bytes out in
    record {
      words = put h.words i a.words;
      sent = cond (eqb (kind_said a) head_number) (take a.long a.bytes ∷ h.sent) h.sent;
      history = cond (eqb (kind_said a) taken_number) (made_in entries (h.words i) bytes ++ h.history) h.history;
    }

-- One call: any bytes at any screen, damaged and truncated ones too, and any output. Only well-formed gossip has to be
-- as it was sent.
pub data Call (n : ℕ) : LentHouse → LentHouse → Type 0 where
  call :
      {h : LentHouse} (i : ℕ) → i < n → (bytes out : List ℕ) → (T (well_formed bytes) → Memᴰ bytes h.sent)
      → Call n h (after_call h i bytes out)

-- a run: each screen opened once, with its own number, on any slice of the one length; then any calls
pub data HostRun (n : ℕ) : LentHouse → Type 0 where
  opened : (lent : ℕ → List ℕ) → ((i : ℕ) → i < n → length (lent i) ≡ book_long) → HostRun n (open_lent lent n)
  onward : {h h' : LentHouse} → HostRun n h → Call n h h' → HostRun n h'

pub record HostDemand (n : ℕ) (h : LentHouse) : Type 0 where
  -- all that holds of lent slices and bytes
  pub lent : LentDemand n h
  -- a call is a step of the books that the slices hold, or leaves the house as it was: so what is said of steps is said
  -- of calls
  pub calls : (h' : LentHouse) → Call n h h' → Step n (held n h) (held n h') ⊎ (held n h ≡ held n h')
