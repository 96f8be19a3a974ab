-- What each operation answers and leaves, and what stops it, of a lent slice of words and the bytes of a message.
-- Assumes nothing.
use Rattle.std.specs.Prelude.{ℕ, ◌≡◌, Bool, cond, List, ◌++◌, eqb, ltb, length, get_or, drop, Ok}
use Rattle.std.proofs.Math.Option.{Option, none, some}
use Rattle.lists.specs.Tests.{first_of}
use Rattle.stamp.specs.Stamp.{Stamp}
use Rattle.wire.specs.Kinds.{tap_kind, question_kind, tap_at, stamp_at}
use Rattle.wire.specs.Read.{line_of, readable}
use Rattle.wire.specs.Write.{Output, refuse}
use Rattle.wire.specs.declared.Refusal.TheVariants.{Unsound, Short}
use Rattle.message.specs.Message.{well_formed, message_of, message_bytes}
use Rattle.meaning.specs.Book.{Book, fresh}
use Rattle.meaning.specs.Reply.{Reply, refusal}
use Rattle.meaning.specs.Request.{Request, tapped, asked, told, stops, step}
use Rattle.meaning.specs.Step.{Outcome, open_stops, send}
use Rattle.lent.specs.Words.{book_long, book_of, words_of, lawful}
use Rattle.promise.specs.Spoken.{spoken}
use Rattle.promise.specs.declared.Reply as answer

-- the reply, and the words that are left
pub record Lent : Type 0 where
  pub reply : Reply
  pub words : List ℕ

-- what an operation answers and leaves is just this
pub record Promise (o : Lent) (r : answer.Reply) (words : List ℕ) : Type 0 where
  pub answers : spoken r ≡ o.reply
  pub leaves : words ≡ o.words

-- 11 where the lent book is unsound or of wrong length, and nothing is altered; else the step on the book that it holds
abbrev pub on_book : List ℕ → Outcome → Lent
on_book ws o = cond (lawful ws) (record { reply = o.reply; words = words_of o.book })
    (record { reply = refusal 11; words = ws })

-- 1 where the bytes are no message of the kind expected, or break a field rule
abbrev pub heard : Bool → Book → Outcome → Outcome
heard readable b o = cond readable o (record { reply = refusal 1; book = b })

-- what stops a request, judged before any word changes: 11, then 1, then the first of the request's own stops
abbrev pub stop_on : Bool → Bool → Option Reply → Option Reply
stop_on lawful readable stop = cond lawful (cond readable stop (some (refusal 1))) (some (refusal 11))

-- the entries that take a message's bytes
pub data Entry : Type 0 where
  of_gossip of_tap of_question : Entry

-- whether the bytes are a message of the entry's kind, and keep its field rules
abbrev pub reads : Entry → Book → List ℕ → Bool
reads of_gossip b bytes = well_formed bytes
reads of_tap b bytes = readable (tap_kind b.screens) bytes
reads of_question b bytes = readable (question_kind b.screens) bytes

-- the request that they make of a book
abbrev pub request_in : Entry → Book → List ℕ → Request
request_in of_gossip b bytes = told (message_of bytes)
request_in of_tap b bytes = let line = line_of (tap_kind b.screens) bytes in tapped (tap_at 1 line) (stamp_at 6 line)
request_in of_question b bytes =
    let line = line_of (question_kind b.screens) bytes in asked (get_or line 1 0) (stamp_at 2 line)

-- what an entry answers and leaves, and what stops it
abbrev pub hear : Entry → Book → List ℕ → Outcome
hear e b bytes = heard (reads e b bytes) b (step b (request_in e b bytes))

abbrev pub entry_on : Entry → List ℕ → List ℕ → Lent
entry_on e ws bytes = on_book ws (hear e (book_of ws) bytes)

abbrev pub entry_stop : Entry → List ℕ → List ℕ → Option Reply
entry_stop e ws bytes =
    let b = book_of ws in
    stop_on (lawful ws) (reads e b bytes) (first_of (stops b (request_in e b bytes)))

unfoldable pub gossip_on : List ℕ → List ℕ → Lent
gossip_on ws bytes = entry_on of_gossip ws bytes

unfoldable pub gossip_stop : List ℕ → List ℕ → Option Reply
gossip_stop ws bytes = entry_stop of_gossip ws bytes

unfoldable pub tap_on : List ℕ → List ℕ → Lent
tap_on ws bytes = entry_on of_tap ws bytes

unfoldable pub tap_stop : List ℕ → List ℕ → Option Reply
tap_stop ws bytes = entry_stop of_tap ws bytes

unfoldable pub question_on : List ℕ → List ℕ → Lent
question_on ws bytes = entry_on of_question ws bytes

-- the prompt and the label that a question's bytes hold
abbrev pub prompt_in : List ℕ → List ℕ → ℕ
prompt_in ws bytes = get_or (line_of (question_kind (book_of ws).screens) bytes) 1 0

abbrev pub label_in : List ℕ → List ℕ → Stamp
label_in ws bytes = stamp_at 2 (line_of (question_kind (book_of ws).screens) bytes)

-- send: 11, then 12; the message at the front of the output, the rest of which stays; the book does not change
abbrev pub put_front : List ℕ → List ℕ → Output
put_front bytes out = cond (ltb (length out) (length bytes)) (refuse Short out)
    (record { answer = Ok (length bytes); bytes = bytes ++ drop (length bytes) out })

unfoldable pub send_on : List ℕ → List ℕ → Output
send_on ws out = cond (lawful ws) (put_front (message_bytes (send (book_of ws))) out) (refuse Unsound out)

-- open: 11 by the length only, then 2; else the fresh book
pub record Opened : Type 0 where
  pub refused : Option Reply
  pub words : List ℕ

abbrev pub open_or : List ℕ → List ℕ → Option Reply → Opened
open_or ws done none = record { refused = none; words = done }
open_or ws done (some r) = record { refused = some r; words = ws }

unfoldable pub open_on : List ℕ → ℕ → ℕ → Opened
open_on ws i n = open_or ws (words_of (fresh i n)) (first_of (open_stops (eqb (length ws) book_long) i n))
