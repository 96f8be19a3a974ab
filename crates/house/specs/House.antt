-- A house, its steps, and its runs from one fresh book for each screen. Assumes nothing.
use Rattle.std.specs.Prelude.{ℕ, ◌<◌, cond, eqb}
use mathlib.Core.List.{List, [], ◌∷◌, ◌++◌, Memᴰ}
use Rattle.ledger.specs.Message.{Message}
use Rattle.ledger.specs.Record.{Record}
use Rattle.meaning.specs.Book.{Book, fresh}
use Rattle.meaning.specs.Reply.{Reply, is_taken}
use Rattle.meaning.specs.Request.{Request, tapped, asked, told, makes, step}
use Rattle.meaning.specs.Step.{send}

-- each screen's book, the gossip ever sent, and the history: the taps taken, the last first
pub record House : Type 0 where
  pub book : ℕ → Book
  pub sent : List Message
  pub history : List Record

unfoldable pub open_house : ℕ → House
open_house n = record { book = λ i. fresh i n; sent = []; history = [] }

-- screen i goes on from another book, all others from theirs
unfoldable pub put : {A : Type 0} → (ℕ → A) → ℕ → A → ℕ → A
put books i b k = cond (eqb k i) b (books k)

-- the history grows by the records that a request makes when it is taken
unfoldable pub grown : Reply → List Record → List Record → List Record
grown reply made history = cond (is_taken reply) (made ++ history) history

unfoldable pub after_request : House → ℕ → Request → House
after_request h i r =
    let b = h.book i in
    let o = step b r in
    record { book = put h.book i o.book; sent = h.sent; history = grown o.reply (makes b r) h.history }

unfoldable pub after_send : House → ℕ → House
after_send h i = record { book = h.book; sent = send (h.book i) ∷ h.sent; history = h.history }

-- any tap and any question may come at any screen, and any gossip once sent: late, twice, out of order or never
abbrev pub MayCome : House → Request → Type 0
MayCome h (tapped t l) = Unit {0}
MayCome h (asked p l) = Unit {0}
MayCome h (told m) = Memᴰ m h.sent

-- one step of a house of n screens: a request at a screen, or a send
pub data Step (n : ℕ) : House → House → Type 0 where
  asks : {h : House} (i : ℕ) → i < n → (r : Request) → MayCome h r → Step n h (after_request h i r)
  sends : {h : House} (i : ℕ) → i < n → Step n h (after_send h i)

-- a run: from one fresh book for each screen, any steps
pub data Run (n : ℕ) : House → Type 0 where
  opened : Run n (open_house n)
  onward : {h h' : House} → Run n h → Step n h h' → Run n h'

-- what a house may come to: any further steps
pub data Later (n : ℕ) (h : House) : House → Type 0 where
  still : Later n h h
  after : {h' h'' : House} → Later n h h' → Step n h' h'' → Later n h h''
