-- A run of the small program: each read is answered with the next bytes of the input, in any pieces, until it stops.
-- Assumes nothing.
use Rattle.std.specs.Prelude.{ℕ, ◌-◌, ◌≤◌, ◌≡◌, Bool, true, false, List, [], ◌++◌, length, take, drop}
use Rattle.program.specs.Turn.{Turned, turn_on}
use Rattle.program.specs.declared.Turn.TheVariants.{Read, Say, Last, Stop}

-- what the loop that drives it holds: the book's words, what is read and not yet used, what is still to come, whether
-- the end is met, whether the book is open, and all that is said so far
pub record Desk : Type 0 where
  pub words : List ℕ
  pub read : List ℕ
  pub rest : List ℕ
  pub ended : Bool
  pub opened : Bool
  pub said : List ℕ

-- at first nothing is read
abbrev pub at_first : List ℕ → List ℕ → Desk
at_first words input = record { words = words; read = []; rest = input; ended = false; opened = false; said = [] }

abbrev pub turn_at : Desk → Turned
turn_at d = turn_on d.words d.read d.ended d.opened

-- the desk after so many bytes more are read; after the end is met; after a turn that used up so many bytes
abbrev pub after_read : Desk → ℕ → Desk
after_read d k =
    record {
      words = d.words;
      read = d.read ++ take k d.rest;
      rest = drop k d.rest;
      ended = d.ended;
      opened = d.opened;
      said = d.said;
    }

abbrev pub after_end : Desk → Desk
after_end d = record {
  words = d.words;
  read = d.read;
  rest = d.rest;
  ended = true;
  opened = d.opened;
  said = d.said;
}

abbrev pub after_say : Desk → ℕ → Desk
after_say d used =
    record {
      words = (turn_at d).words;
      read = drop used d.read;
      rest = d.rest;
      ended = d.ended;
      opened = true;
      said = d.said ++ (turn_at d).says;
    }

-- A read is answered with at least one of the bytes that come next and at most as many as it asks for, or, where none
-- come, with the end. What a message says is said, and reading goes on.
pub data Goes : Desk → Desk → Type 0 where
  reads : {d : Desk} (n k : ℕ) → (turn_at d).turn ≡ Read n → 1 ≤ k → k ≤ n - length d.read → k ≤ length d.rest
      → Goes d (after_read d k)
  ends : {d : Desk} (n : ℕ) → (turn_at d).turn ≡ Read n → d.rest ≡ [] → Goes d (after_end d)
  says : {d : Desk} (used k : ℕ) → (turn_at d).turn ≡ Say used k → Goes d (after_say d used)

-- all that is said by the time the program stops
pub data Says : Desk → List ℕ → Type 0 where
  last : {d : Desk} (k : ℕ) → (turn_at d).turn ≡ Last k → Says d (d.said ++ (turn_at d).says)
  stops : {d : Desk} → (turn_at d).turn ≡ Stop → Says d d.said
  onward : {d d' : Desk} {all : List ℕ} → Goes d d' → Says d' all → Says d all

-- every desk that a run comes to
pub data Reached (words input : List ℕ) : Desk → Type 0 where
  begun : Reached words input (at_first words input)
  after : {d d' : Desk} → Reached words input d → Goes d d' → Reached words input d'
