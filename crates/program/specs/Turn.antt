-- What the small program does next, of the book, what is read and not yet used, whether the input has ended and whether
-- the book is open. Assumes nothing.
use Rattle.std.specs.Prelude.{ℕ, ◌≡◌, Bool, cond, ◌&&◌, List, [], ◌++◌, eqb, length, take, drop}
use Rattle.std.proofs.Math.Option.{Option, none, some}
use Rattle.meaning.specs.Reply.{Reply}
use Rattle.frames.specs.Next.{next_of}
use Rattle.frames.specs.declared.Frame.{Frame}
use Rattle.frames.specs.declared.Frame.TheVariants as frame
use Rattle.answer.specs.Speech.{bytes_for}
use Rattle.answer.specs.Answer.{done_on, open_from}
use Rattle.program.specs.Said.{bad}
use Rattle.program.specs.declared.Turn.{Turn}
use Rattle.program.specs.declared.Turn.TheVariants.{Read, Say, Last, Stop}

-- what is done, the words that are left, and the bytes that are said
pub record Turned : Type 0 where
  pub turn : Turn
  pub words : List ℕ
  pub says : List ℕ

-- bytes are said, and the program stops
abbrev pub last_turn : List ℕ → List ℕ → Turned
last_turn words says = record { turn = Last (length says); words = words; says = says }

-- nothing is said, and no word changes
abbrev pub quiet_turn : Turn → List ℕ → Turned
quiet_turn turn words = record { turn = turn; words = words; says = [] }

-- so many bytes of what is read are used, and bytes are said
abbrev pub say_turn : ℕ → List ℕ → List ℕ → Turned
say_turn used words says = record { turn = Say used (length says); words = words; says = says }

-- more bytes are needed: they are read; but an end between messages stops it without a word, and any other end is an
-- end inside a message or before kind 11
abbrev pub more_turn : List ℕ → List ℕ → Bool → Bool → ℕ → Turned
more_turn words read ended opened n =
    cond ended (cond (opened && eqb (length read) 0) (quiet_turn Stop words) (last_turn words bad))
    (quiet_turn (Read n) words)

-- kind 11 says nothing, or its refusal, which stops the program
abbrev pub open_turn : ℕ → Option Reply → List ℕ → Turned
open_turn used none words = say_turn used words []
open_turn used (some r) words = last_turn words (bytes_for r)

-- a whole message: kind 11 first, then requests, each with its reply
abbrev pub message_turn : List ℕ → List ℕ → Bool → Turned
message_turn words msg opened =
    cond opened (say_turn (length msg) (done_on words msg).words (done_on words msg).says)
    (open_turn (length msg) (open_from words msg).refused (open_from words msg).words)

abbrev pub turn_by : Frame → List ℕ → List ℕ → Bool → Bool → Turned
turn_by (frame.More n) words read ended opened = more_turn words read ended opened n
turn_by (frame.Whole n) words read ended opened = message_turn words (take n read) opened
turn_by frame.Stop words read ended opened = last_turn words bad

unfoldable pub turn_on : List ℕ → List ℕ → Bool → Bool → Turned
turn_on words read ended opened = turn_by (next_of read opened) words read ended opened

-- what a turn gives, leaves and writes is just this: what is said stands at the output's front, the rest of which stays
pub record Turns (o : Turned) (turn : Turn) (words out bytes : List ℕ) : Type 0 where
  pub gives : turn ≡ o.turn
  pub leaves : words ≡ o.words
  pub writes : bytes ≡ o.says ++ drop (length o.says) out
