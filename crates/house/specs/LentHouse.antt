-- The runs of a house whose books are lent slices and whose messages are bytes: the steps are what the operations
-- promise. Assumes nothing.
use Rattle.std.specs.Prelude.{ℕ, ◌<◌, ◌≡◌, ◌⊎◌, cond, T, ltb, length, take}
use mathlib.Core.List.{List, [], ◌∷◌, map, Memᴰ}
use Rattle.ledger.specs.Record.{Record}
use Rattle.std.specs.Prelude.{Ok}
use Rattle.message.specs.Message.{well_formed, message_of}
use Rattle.meaning.specs.Book.{fresh}
use Rattle.meaning.specs.Reply.{permits}
use Rattle.meaning.specs.Request.{makes}
use Rattle.lent.specs.Words.{book_long, book_of, lawful}
use Rattle.promise.specs.Lent.{Entry, of_gossip, of_tap, of_question, request_in, entry_on}
use Rattle.promise.specs.Lent.{prompt_in, label_in, question_on, gossip_on, send_on, open_on}
use Rattle.house.specs.Consent.{answer_at, Consent}
use Rattle.house.specs.Demand.{HeardAs, Demand}
use Rattle.house.specs.House.{House, put, grown, Step}

-- each screen's lent slice, the gossip ever sent, as bytes, and the history: the taps taken, the last first
pub record LentHouse : Type 0 where
  pub words : ℕ → List ℕ
  pub sent : List (List ℕ)
  pub history : List Record

unfoldable pub open_lent : (ℕ → List ℕ) → ℕ → LentHouse
open_lent lent n = record { words = λ i. (open_on (lent i) i n).words; sent = []; history = [] }

-- the records that an entry's bytes make where they are taken
abbrev pub made_by : Entry → List ℕ → List ℕ → List Record
made_by e ws bytes = makes (book_of ws) (request_in e (book_of ws) bytes)

unfoldable pub lent_request : LentHouse → ℕ → Entry → List ℕ → LentHouse
lent_request h i e bytes =
    let o = entry_on e (h.words i) bytes in
    record {
      words = put h.words i o.words;
      sent = h.sent;
      history = grown o.reply (made_by e (h.words i) bytes) h.history;
    }

-- the first k bytes of an output that send has written are a message of the house
unfoldable pub lent_send : LentHouse → ℕ → List ℕ → ℕ → LentHouse
lent_send h i out k = record
    { words = h.words; sent = take k (send_on (h.words i) out).bytes ∷ h.sent; history = h.history }

-- any bytes may come at any entry of any screen, but well-formed gossip only as it was sent: late, twice, out of order
-- or never
abbrev pub MayCome : LentHouse → Entry → List ℕ → Type 0
MayCome h of_gossip bytes = T (well_formed bytes) → Memᴰ bytes h.sent
MayCome h of_tap bytes = Unit {0}
MayCome h of_question bytes = Unit {0}

-- one step of a house of n screens: bytes at an entry of a screen, or a send into any output that is long enough
pub data LentStep (n : ℕ) : LentHouse → LentHouse → Type 0 where
  hears : {h : LentHouse} (i : ℕ) → i < n → (e : Entry) (bytes : List ℕ) → MayCome h e bytes
      → LentStep n h (lent_request h i e bytes)
  sends : {h : LentHouse} (i : ℕ) → i < n → (out : List ℕ) (k : ℕ) → (send_on (h.words i) out).answer ≡ Ok k
      → LentStep n h (lent_send h i out k)

-- a run: each screen opened once, with its own number, on any slice of the one length; then any steps
pub data LentRun (n : ℕ) : LentHouse → Type 0 where
  opened : (lent : ℕ → List ℕ) → ((i : ℕ) → i < n → length (lent i) ≡ book_long) → LentRun n (open_lent lent n)
  onward : {h h' : LentHouse} → LentRun n h → LentStep n h h' → LentRun n h'

-- the house of books that the slices hold
unfoldable pub held : ℕ → LentHouse → House
held n h = record {
  book = λ i. cond (ltb i n) (book_of (h.words i)) (fresh i n);
  sent = map message_of h.sent;
  history = h.history;
}

pub record LentDemand (n : ℕ) (h : LentHouse) : Type 0 where
  -- the third demand, sentence by sentence, of the books that the slices hold
  pub demand : Demand n (held n h)
  -- no refused consent goes live
  pub consent : Consent n (held n h)
  -- every lent book stays sound
  pub books-sound : (i : ℕ) → i < n → T (lawful (h.words i))
  -- a step of the slices is a step of the books that they hold, or leaves the house as it was
  pub steps : (h' : LentHouse) → LentStep n h h' → Step n (held n h) (held n h') ⊎ (held n h ≡ held n h')
  -- gossip sent in the house, as the bytes that were sent, is refused only as old, spent, for want of room, or as
  -- returned
  pub refused-only : (i : ℕ) → i < n → (bytes : List ℕ) → Memᴰ bytes h.sent
      → HeardAs i (message_of bytes) (gossip_on (h.words i) bytes).reply
  -- where Permission says yes to bytes, the answer is that of the book to the question that they hold: `consent` speaks
  -- of it
  pub asked :
      (i : ℕ) → i < n → (bytes : List ℕ) → T (permits (question_on (h.words i) bytes).reply)
      → (question_on (h.words i) bytes).reply
      ≡ answer_at (held n h) i (prompt_in (h.words i) bytes) (label_in (h.words i) bytes)
