-- Laws: on the words of a sound book an operation is the step of that book; send answers by its list of stops; a
-- promise has one outcome. Assumes nothing.
use Rattle.std.specs.Prelude.{ℕ, ◌≡◌, refl, Bool, true, false, not, List, [], ◌∷◌, ◌++◌, ltb, length, get_or, drop, Ok}
use Rattle.std.proofs.Common.{sym, ◌∙◌}
use Rattle.std.proofs.Math.Path.{ap}
use Rattle.std.proofs.Math.Bool.{cond}
use Rattle.std.proofs.Math.Option.{Option, none, some}
use Rattle.lists.specs.TestLaws.{is_true}
use Rattle.lists.specs.Tests.{first_of}
use Rattle.stamp.specs.Parts.{parts_at}
use Rattle.stamp.specs.PartsLaws.{parts_list}
use Rattle.stamp.specs.declared.Parts.{Parts}
use Rattle.wire.specs.Write.{Output, refuse}
use Rattle.wire.specs.Refusal.{refusal_numbered}
use Rattle.wire.specs.declared.Refusal.TheVariants.{Unsound, Short}
use Rattle.message.specs.Message.{message_bytes}
use Rattle.meaning.specs.Book.{Book}
use Rattle.meaning.specs.BookLaws.{Sound}
use Rattle.meaning.specs.Reply.{Reply, refusal, figures}
use Rattle.meaning.specs.Reply as meaning
use Rattle.meaning.specs.Step.{Outcome, send, send_stops}
use Rattle.lent.specs.SoundWords.{sound-shape, sound-lawful}
use Rattle.lent.specs.Words.{book_of, words_of, lawful}
use Rattle.lent.specs.WordsLaws.{book-words}
use Rattle.promise.specs.Lent.{Entry, hear, entry_on, Lent, Promise, on_book, put_front, send_on}
use Rattle.promise.specs.Spoken.{spoken}
use Rattle.promise.specs.declared.Reply as answer
use Rattle.promise.specs.declared.Reply.TheVariants as says

-- the reply of a step and the words of its book
abbrev pub lent_of : Outcome → Lent
lent_of o = record { reply = o.reply; words = words_of o.book }

-- an outcome that is settled is what a step owes
pub owes : (o p : Outcome) (r : answer.Reply) (ws : List ℕ) → o ≡ p → spoken r ≡ p.reply → ws ≡ words_of p.book
    → Promise (lent_of o) r ws
owes o p r ws e a w = record {
  answers = a ∙ ap (λ (x : Outcome). x.reply) (sym e);
  leaves = w
      ∙ ap (λ (x : Outcome). words_of x.book) (sym e);
}

module _ (b : Book) (s : Sound b) where
  pub book-back : book_of (words_of b) ≡ b
  book-back = book-words b (sound-shape b s)

  lawful-now : lawful (words_of b) ≡ true
  lawful-now = is_true (lawful (words_of b)) (sound-lawful b s)

  on-book : (f : Book → Outcome) → on_book (words_of b) (f (book_of (words_of b))) ≡ lent_of (f b)
  on-book f = ap (λ (c : Bool). cond c (lent_of (f (book_of (words_of b))))
      (record { reply = refusal 11; words = words_of b })) lawful-now ∙ ap (λ (x : Book). lent_of (f x)) book-back

  pub entry-on : (e : Entry) (bytes : List ℕ) → entry_on e (words_of b) bytes ≡ lent_of (hear e b bytes)
  entry-on e bytes = on-book (λ x. hear e x bytes)

  pub send-on : (out : List ℕ) → send_on (words_of b) out ≡ put_front (message_bytes (send b)) out
  unfolding send_on
  send-on out = ap (λ (c : Bool). cond c (put_front (message_bytes (send (book_of (words_of b)))) out)
      (refuse Unsound out))
      lawful-now ∙ ap (λ (x : Book). put_front (message_bytes (send x)) out) book-back

-- send answers by the first of its stops that holds
abbrev sent_by : List ℕ → List ℕ → Option Reply → Output
sent_by bytes out none = record { answer = Ok (length bytes); bytes = bytes ++ drop (length bytes) out }
sent_by bytes out (some r) = refuse (refusal_numbered (get_or (figures r) 1 0)) out

pub send-first : (ws out : List ℕ) → let bytes = message_bytes (send (book_of ws)) in
    send_on ws out ≡ sent_by bytes out (first_of (send_stops (lawful ws) (length bytes) (length out)))
unfolding send_on send_stops
send-first ws out = go (lawful ws) (ltb (length out) (length message))
  where
    message : List ℕ
    message = message_bytes (send (book_of ws))

    go : (c s : Bool)
        → cond c (cond s (refuse Short out)
        (record { answer = Ok (length message); bytes = message ++ drop (length message) out })) (refuse Unsound out)
        ≡ sent_by message out (first_of ((not c, refusal 11) ∷ (s, refusal 12) ∷ []))
    go true true = refl
    go true false = refl
    go false s = refl

-- an answer is settled by the reply that it gives
abbrev answer_of : Reply → answer.Reply
answer_of (meaning.taken s) = says.Taken (parts_at 0 s)
answer_of (meaning.already s) = says.Already (parts_at 0 s)
answer_of (meaning.verdict v h a d s) =
    says.Verdict (record { verdict = v; showing = h; accepts = a; declines = d; value = parts_at 0 s })
answer_of (meaning.wait bits) = says.Wait bits
answer_of (meaning.refusal k) = says.Refused k
answer_of (meaning.gossiped new applied) = says.Gossiped (record { new = new; applied = applied })

answer_back : (r : answer.Reply) → answer_of (spoken r) ≡ r
answer_back (says.Taken s) = ap says.Taken (parts_list s)
answer_back (says.Already s) = ap says.Already (parts_list s)
answer_back (says.Verdict v) =
    ap (λ (s : Parts).
    says.Verdict (record {
      verdict = v.verdict;
      showing = v.showing;
      accepts = v.accepts;
      declines = v.declines;
      value = s;
    }))
    (parts_list v.value)
answer_back (says.Wait bits) = refl
answer_back (says.Refused k) = refl
answer_back (says.Gossiped g) = refl

-- for any two outcomes that both satisfy an operation's promise, equality
pub one-outcome : (o : Lent) (r r' : answer.Reply) (w w' : List ℕ) → Promise o r w → Promise o r' w'
    → (r ≡ r') × (w ≡ w')
one-outcome o r r' w w' p q =
    (sym (answer_back r) ∙ ap answer_of (p.answers ∙ sym q.answers) ∙ answer_back r', p.leaves ∙ sym q.leaves)
