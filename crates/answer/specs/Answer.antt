-- One whole message answered on a lent slice of words, into a lent output. Assumes nothing.
use Rattle.std.specs.Prelude.{ℕ, ◌≡◌, cond, List, [], ◌∷◌, ◌++◌, map, eqb, ltb, length, get_or, drop}
use Rattle.std.specs.Result.{result_unwrap_or}
use Rattle.std.proofs.Math.Option.{some}
use Rattle.limits.specs.KindNumbers.{head_number, tap_number, question_number, send_number}
use Rattle.wire.specs.Kinds.{open_kind, send_kind, longest}
use Rattle.wire.specs.Requests.{tap_long, question_long, gossip_long, refusal_long}
use Rattle.wire.specs.Read.{line_of, readable}
use Rattle.wire.specs.Write.{Written}
use Rattle.message.specs.Message.{message_bytes}
use Rattle.meaning.specs.Reply.{refusal}
use Rattle.meaning.specs.Step.{send}
use Rattle.lent.specs.Words.{book_long, book_of, lawful}
use Rattle.promise.specs.Lent.{Entry, of_gossip, of_tap, of_question, Lent, on_book, tap_on, question_on, gossip_on}
use Rattle.promise.specs.Lent.{Opened, open_on}
use Rattle.answer.specs.Speech.{bytes_for}

-- what a message comes to: the bytes of its reply, and the words that are left
pub record Done : Type 0 where
  pub says : List ℕ
  pub words : List ℕ

abbrev pub done_by : Lent → Done
done_by o = record { says = bytes_for o.reply; words = o.words }

-- send says its gossip message, or refusal 11
abbrev pub send_says : List ℕ → List ℕ
send_says ws = cond (lawful ws) (message_bytes (send (book_of ws))) (bytes_for (refusal 11))

abbrev pub send_done : List ℕ → Done
send_done ws = record { says = send_says ws; words = ws }

-- bytes that are no request: 11, then 1
abbrev pub bad_on : List ℕ → Lent
bad_on ws = on_book ws (record { reply = refusal 1; book = book_of ws })

abbrev pub other_done : List ℕ → List ℕ → Done
other_done ws bytes = cond (readable send_kind bytes) (send_done ws) (done_by (bad_on ws))

-- the byte of kind; no bytes have kind 0, which is no request's
abbrev pub kind_in : List ℕ → ℕ
kind_in bytes = get_or bytes 0 0

-- A line of the table of requests: the kind's number, the room that is always enough for the reply, and what bytes of
-- that kind come to on a lent slice.
pub record Line : Type 0 where
  pub number : ℕ
  pub room : ℕ
  pub done : List ℕ → List ℕ → Done

abbrev pub gossip_line : Line
gossip_line = record { number = head_number; room = gossip_long; done = λ ws bytes. done_by (gossip_on ws bytes) }

abbrev pub tap_line : Line
tap_line = record { number = tap_number; room = tap_long; done = λ ws bytes. done_by (tap_on ws bytes) }

abbrev pub question_line : Line
question_line = record {
  number = question_number;
  room = question_long;
  done = λ ws bytes. done_by
      (question_on ws bytes);
}

abbrev pub send_line : Line
send_line = record { number = send_number; room = longest; done = other_done }

-- the entries in the table's order, each with its line
abbrev pub entries : List Entry
entries = of_gossip ∷ of_tap ∷ of_question ∷ []

abbrev pub entry_line : Entry → Line
entry_line of_gossip = gossip_line
entry_line of_tap = tap_line
entry_line of_question = question_line

abbrev pub lines : List Line
lines = map entry_line entries ++ send_line ∷ []

-- a message is dealt with by the line of its kind; bytes of any other are no request
abbrev pub done_in : List Line → List ℕ → List ℕ → Done
done_in [] ws bytes = done_by (bad_on ws)
done_in (l ∷ ls) ws bytes = cond (eqb (kind_in bytes) l.number) (l.done ws bytes) (done_in ls ws bytes)

unfoldable pub done_on : List ℕ → List ℕ → Done
done_on ws bytes = done_in lines ws bytes

-- how long the reply is (0: refused with 12), the words and the output
pub record Answered : Type 0 where
  pub long : ℕ
  pub words : List ℕ
  pub bytes : List ℕ

-- 12 exactly where the output is shorter than the very reply, and then nothing changes; else the reply at the output's
-- front, the rest of which stays
unfoldable pub answer_by : Done → List ℕ → List ℕ → Answered
answer_by d ws out =
    cond (ltb (length out) (length d.says)) (record { long = 0; words = ws; bytes = out })
    (record { long = length d.says; words = d.words; bytes = d.says ++ drop (length d.says) out })

-- the kind of the reply that was given: its first byte, and 0 where none was
abbrev pub kind_said : Answered → ℕ
kind_said a = cond (eqb a.long 0) 0 (get_or a.bytes 0 0)

abbrev pub answer_on : List ℕ → List ℕ → List ℕ → Answered
answer_on ws bytes out = answer_by (done_on ws bytes) ws out

-- what answering gives, leaves and writes is just this
pub record Answers (o : Answered) (long : ℕ) (words bytes : List ℕ) : Type 0 where
  pub gives : long ≡ o.long
  pub leaves : words ≡ o.words
  pub writes : bytes ≡ o.bytes

-- the room that is always enough for the reply, by the byte of kind
abbrev pub room_by : List Line → ℕ → ℕ
room_by [] k = refusal_long
room_by (l ∷ ls) k = cond (eqb k l.number) l.room (room_by ls k)

unfoldable pub room_for : List ℕ → ℕ
room_for bytes = room_by lines (kind_in bytes)

-- the bytes of kind 11 open a book: 11 by the length only, then 1, then 2; else the fresh book
unfoldable pub open_from : List ℕ → List ℕ → Opened
open_from ws bytes =
    let line = line_of open_kind bytes in
    cond (readable open_kind bytes) (open_on ws (get_or line 1 0) (get_or line 2 0))
    (record { refused = some (cond (eqb (length ws) book_long) (refusal 1) (refusal 11)); words = ws })

-- how many bytes were written: none where the writer refused
abbrev pub long_in : Written → ℕ
long_in w = result_unwrap_or w 0
