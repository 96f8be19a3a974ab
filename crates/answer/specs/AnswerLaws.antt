-- Laws of answering. Assumes nothing.
--     short, front          what answering owes where the output is shorter than the reply, and where it is not
--     gossip-done ..        which request the byte of kind tells
--     good-gossip ..        every line of the table of requests is as it should be
--     within, room_most     a reply is never empty, and is within the room told beforehand; no room is over the longest
--     twelve_exactly        12 exactly where the output is shorter than the very reply
--     answered, unanswered  with the room told beforehand every message is answered; one that is not changes nothing
--     answer_keeps          a reply other than Taken and gossip taken leaves every word as it was
--     one_answer            two outcomes that both meet the promise are equal
use Prim.Native.Nat.{ℕ, ◌+◌, ◌*◌, ◌≤◌, ◌<◌}
use Rattle.std.proofs.Common.{arith, sym, subst, ◌∙◌}
use Rattle.std.specs.Prelude.{◌≡◌, Bool, not, ◌&&◌, ltb, length, get_or, drop}
use Rattle.std.proofs.Math.Path.{refl, ap}
use Rattle.std.proofs.Math.Bool.{true, false, cond}
use mathlib.Core.List.{List, [], ◌∷◌, ◌++◌}
use borrow.Author.Tests.{ltb-true, lt-ltb, le-ltb, eq-eqb, ne_eqb}
use Rattle.std.proofs.Math.Dec.{T, eqb}
use Rattle.lists.specs.TestLaws.{is_true, and_l}
use Rattle.limits.specs.LimitLaws.{log-some}
use Rattle.limits.specs.Limits.{log_room}
use Rattle.limits.specs.KindNumbers.{head_number, tap_number, question_number, taken_number, gossip_taken_number}
use Rattle.limits.specs.KindNumbers.{send_number}
use Rattle.wire.specs.Kinds.{refusal_kind, send_kind, in_table, body_by, is_long, shaped, head_long, longest}
use Rattle.wire.specs.Kinds.{record_long}
use Rattle.wire.specs.Requests.{tap_long, question_long, gossip_long, refusal_long}
use Rattle.wire.specs.Read.{readable}
use Rattle.wire.specs.Write.{writable}
use Rattle.message.specs.Message.{message_bytes}
use Rattle.message.proofs.MessageLaws.{length-bytes-of}
use Rattle.meaning.specs.BookLaws.{send-fits}
use Rattle.meaning.specs.Reply.{Reply, taken, already, verdict, wait, refusal, gossiped}
use Rattle.meaning.specs.Step.{send}
use Rattle.lent.specs.SoundWords.{lawful-sound, lawful-held}
use Rattle.lent.specs.Words.{book_of, words_of, lawful}
use Rattle.promise.specs.Lent.{Lent, tap_on, question_on, gossip_on}
use Rattle.promise.specs.KeepsLaws.{tap-keeps, question-keeps, gossip-keeps}
use Rattle.answer.specs.KindLaws.{first_of}
use Rattle.answer.specs.Speech.{bytes_for, sayable, long_of}
use Rattle.answer.specs.SpeechLaws.{reply-long, tap-says, tap-long, question-says, question-long, gossip-says}
use Rattle.answer.specs.SpeechLaws.{gossip-long}
use Rattle.answer.specs.Answer.{Done, done_by, send_done, bad_on, other_done, kind_in, Line, gossip_line, tap_line}
use Rattle.answer.specs.Answer.{question_line, send_line, lines, done_in, done_on, Answered, answer_by, kind_said}
use Rattle.answer.specs.Answer.{answer_on, Answers, room_by, room_for}

pub short : (d : Done) (ws out : List ℕ) → length out < length d.says → Answers (answer_by d ws out) 0 ws out
unfolding answer_by
short d ws out h = rw (lt-ltb (length out) (length d.says) h) (record { gives = refl; leaves = refl; writes = refl })

pub front :
    (d : Done) (ws out : List ℕ) → length d.says ≤ length out
    → Answers (answer_by d ws out) (length d.says) d.words (d.says ++ drop (length d.says) out)
unfolding answer_by
front d ws out h = rw (le-ltb (length out) (length d.says) h) (record { gives = refl; leaves = refl; writes = refl })

-- send's bytes are of kind 12
send-kind : (bytes : List ℕ) → readable send_kind bytes ≡ true → eqb (kind_in bytes) 12 ≡ true
unfolding readable send_kind shaped
send-kind bytes e =
    let fits = is_long (body_by 12) (length bytes) in
    is_true (eqb (kind_in bytes) 12)
    (and_l (eqb (kind_in bytes) 12) fits (and_l (eqb (kind_in bytes) 12 && fits) true (subst T (sym e) tt)))

-- which request the byte of kind tells
module _ (ws bytes : List ℕ) where
  pub gossip-done : kind_in bytes ≡ 1 → done_on ws bytes ≡ done_by (gossip_on ws bytes)
  unfolding done_on
  gossip-done e = rw (e)

  pub tap-done : kind_in bytes ≡ 3 → done_on ws bytes ≡ done_by (tap_on ws bytes)
  unfolding done_on
  tap-done e = rw (e)

  pub question-done : kind_in bytes ≡ 4 → done_on ws bytes ≡ done_by (question_on ws bytes)
  unfolding done_on
  question-done e = rw (e)

  pub other-done :
      (kind_in bytes ≡ head_number → ⊥) → (kind_in bytes ≡ tap_number → ⊥) → (kind_in bytes ≡ question_number → ⊥)
      → done_on ws bytes ≡ other_done ws bytes
  unfolding done_on
  other-done a b c =
      rw (
        ne_eqb (kind_in bytes) head_number a,
        ne_eqb (kind_in bytes) tap_number b,
        ne_eqb (kind_in bytes)
            question_number c,
      )
      (go (eqb (kind_in bytes) send_number) refl (readable send_kind bytes) refl)
    where
      go : (twelve : Bool) → eqb (kind_in bytes) send_number ≡ twelve → (send : Bool) → readable send_kind bytes ≡ send
          → cond twelve (other_done ws bytes) (done_by (bad_on ws)) ≡ cond send (send_done ws) (done_by (bad_on ws))
      go true e send f = ap (λ (c : Bool). cond c (send_done ws) (done_by (bad_on ws))) f
      go false e true f = absurd (subst T (sym (send-kind bytes f) ∙ e) tt)
      go false e false f = refl

-- bytes that are no request get refusal 1 or 11
bad_cases : (P : Reply → Type 0) (ws : List ℕ) → P (refusal 1) → P (refusal 11) → P (bad_on ws).reply
bad_cases P ws one eleven = go (lawful ws)
  where
    go : (c : Bool) → P (cond {A = Lent} c (record { reply = refusal 1; words = words_of (book_of ws) })
        (record { reply = refusal 11; words = ws })).reply
    go true = one
    go false = eleven

pub unsound-says : T (sayable (refusal 11))
unfolding writable refusal_kind in_table
unsound-says = tt

pub bad-says : (ws : List ℕ) → T (sayable (bad_on ws).reply)
unfolding writable refusal_kind in_table
bad-says ws = bad_cases (λ r. T (sayable r)) ws tt tt

pub bad-long : (ws : List ℕ) → length (bytes_for (bad_on ws).reply) ≤ refusal_long
bad-long ws = omega (
  arith,
  reply-long (bad_on ws).reply (bad-says ws),
  bad_cases (λ r. long_of r ≤ 2) ws (omega arith) (omega arith),
)

-- what is said is not empty, and within n bytes
pub record Within (n : ℕ) (d : Done) : Type 0 where
  pub some : 1 ≤ length d.says
  pub fits : length d.says ≤ n

reply-some : (r : Reply) → 2 ≤ long_of r
reply-some (taken s) = omega arith
reply-some (already s) = omega arith
reply-some (verdict v h a d s) = omega arith
reply-some (wait bits) = omega arith
reply-some (refusal k) = omega arith
reply-some (gossiped new applied) = omega arith

reply-within : (n : ℕ) (o : Lent) → T (sayable o.reply) → length (bytes_for o.reply) ≤ n → Within n (done_by o)
reply-within n o t h = record { some = omega (arith, reply-some o.reply, reply-long o.reply t); fits = h }

sent-long : (ws : List ℕ) → T (lawful ws)
    → (1 ≤ length (message_bytes (send (book_of ws)))) × (length (message_bytes (send (book_of ws))) ≤ longest)
unfolding send log_room
sent-long ws t =
    let s = lawful-sound ws t in
    let e : length (message_bytes (send (book_of ws)))
    ≡ head_long + length (book_of ws).log * record_long =
    length-bytes-of (send (book_of ws)) (send-fits (book_of ws) s) in
    (omega (arith, e), omega (arith, e, s.log-room))

send-within : (ws : List ℕ) → Within longest (send_done ws)
send-within ws = go (lawful ws) refl
  where
    go : (c : Bool) → lawful ws ≡ c
        → Within longest (record
        { says = cond c (message_bytes (send (book_of ws))) (bytes_for (refusal 11)); words = ws })
    go true e = let l = sent-long ws (subst T (sym e) tt) in record { some = l.0; fits = l.1 }
    go false e = let l = reply-long (refusal 11) unsound-says in
        record { some = omega (arith, l); fits = omega (arith, l) }

-- what is asked of a line of the table
pub record Good (l : Line) : Type 0 where
  -- what it says is not empty, and within its room
  pub within : (ws bytes : List ℕ) → Within l.room (l.done ws bytes)
  -- its room is no more than the longest message's
  pub few : l.room ≤ longest
  -- what is said is neither Taken nor gossip taken: then no word changes
  pub keeps :
      (ws bytes : List ℕ) → let d = l.done ws bytes in
      eqb (get_or d.says 0 0) taken_number ≡ false → eqb (get_or d.says 0 0) gossip_taken_number ≡ false → d.words ≡ ws

abbrev Goods : List Line → Type 0
Goods [] = Unit {0}
Goods (l ∷ ls) = Good l × Goods ls

off : {c d : Bool} → c ≡ d → d ≡ false → T (not c)
off e f = subst (λ (x : Bool). T (not x)) (sym (e ∙ f)) tt

bad-within : (ws : List ℕ) → Within refusal_long (done_by (bad_on ws))
bad-within ws = reply-within refusal_long (bad_on ws) (bad-says ws) (bad-long ws)

bad-keeps : (ws : List ℕ) → (bad_on ws).words ≡ ws
bad-keeps ws = go (lawful ws) refl
  where
    go : (c : Bool) → lawful ws ≡ c
        → (cond {A = Lent} c (record { reply = refusal 1; words = words_of (book_of ws) })
        (record { reply = refusal 11; words = ws })).words ≡ ws
    go true e = (lawful-held ws (subst T (sym e) tt)).words
    go false e = refl

good-gossip : Good gossip_line
good-gossip =
    record {
      within = λ ws bytes. reply-within gossip_long (gossip_on ws bytes) (gossip-says ws bytes) (gossip-long ws bytes);
      few = omega arith;
      keeps = λ ws bytes e f. gossip-keeps ws bytes
          (off (sym (first_of gossip_taken_number (gossip_on ws bytes).reply)) f);
    }

good_tap : Good tap_line
good_tap =
    record {
      within = λ ws bytes. reply-within tap_long (tap_on ws bytes) (tap-says ws bytes) (tap-long ws bytes);
      few = omega arith;
      keeps = λ ws bytes e f. tap-keeps ws bytes (off (sym (first_of taken_number (tap_on ws bytes).reply)) e);
    }

good_question : Good question_line
good_question =
    record {
      within = λ ws bytes. reply-within question_long (question_on ws bytes) (question-says ws bytes)
          (question-long ws bytes);
      few = omega (arith, log-some);
      keeps = λ ws bytes e f. question-keeps ws bytes;
    }

good-send : Good send_line
good-send =
    record {
      within = λ ws bytes. go ws (readable send_kind bytes);
      few = omega arith;
      keeps = λ ws bytes e f. stays ws (readable send_kind bytes);
    }
  where
    go : (ws : List ℕ) (send : Bool) → Within longest (cond send (send_done ws) (done_by (bad_on ws)))
    go ws true = send-within ws
    go ws false = let w = bad-within ws in record { some = w.some; fits = omega (arith, w.fits) }

    stays : (ws : List ℕ) (send : Bool) → (cond send (send_done ws) (done_by (bad_on ws))).words ≡ ws
    stays ws true = refl
    stays ws false = bad-keeps ws

goods : Goods lines
goods = (good-gossip, (good_tap, (good_question, (good-send, tt))))

-- so no reply is longer than the longest message
room-few : (ls : List Line) → Goods ls → (k : ℕ) → room_by ls k ≤ longest
room-few [] g k = omega arith
room-few (l ∷ ls) g k = go (eqb k l.number) (room-few ls g.1 k)
  where
    go : (c : Bool) → room_by ls k ≤ longest → cond c l.room (room_by ls k) ≤ longest
    go true rest = g.0.few
    go false rest = rest

pub room_most : (bytes : List ℕ) → room_for bytes ≤ longest
unfolding room_for
room_most bytes = room-few lines goods (kind_in bytes)

module _ (ws bytes : List ℕ) where
  within_in : (ls : List Line) → Goods ls → Within (room_by ls (kind_in bytes)) (done_in ls ws bytes)
  within_in [] g = bad-within ws
  within_in (l ∷ ls) g = go (eqb (kind_in bytes) l.number) (within_in ls g.1)
    where
      go : (c : Bool) → Within (room_by ls (kind_in bytes)) (done_in ls ws bytes)
          → Within (cond c l.room (room_by ls (kind_in bytes))) (cond c (l.done ws bytes) (done_in ls ws bytes))
      go true rest = g.0.within ws bytes
      go false rest = rest

  pub within : Within (room_for bytes) (done_on ws bytes)
  unfolding done_on room_for
  within = within_in lines goods

  -- what is given where the output is shorter than the reply, and where it is not
  given : List ℕ → Bool → Answered
  given out short =
      let d = done_on ws bytes in
      cond short (record { long = 0; words = ws; bytes = out })
      (record { long = length d.says; words = d.words; bytes = d.says ++ drop (length d.says) out })

  -- 12 exactly where the output is shorter than the very reply
  pub twelve_exactly : (out : List ℕ)
      → eqb (answer_on ws bytes out).long 0 ≡ ltb (length out) (length (done_on ws bytes).says)
  unfolding answer_by given
  twelve_exactly out = go (ltb (length out) (length (done_on ws bytes).says))
    where
      go : (c : Bool) → eqb (given out c).long 0 ≡ c
      go true = refl
      go false = ne_eqb (length (done_on ws bytes).says) 0 (λ e. omega (arith, within.some))

  -- so the room that is told beforehand is always enough
  pub answered : (out : List ℕ) → room_for bytes ≤ length out → 1 ≤ (answer_on ws bytes out).long
  answered out h = omega (arith, (front (done_on ws bytes) ws out (omega (arith, within.fits))).gives, within.some)

  -- and a message that is not answered changed nothing
  pub unanswered : (out : List ℕ) → (answer_on ws bytes out).long ≡ 0
      → ((answer_on ws bytes out).words ≡ ws) × ((answer_on ws bytes out).bytes ≡ out)
  unanswered out none =
      let less = ltb-true (length out) (length (done_on ws bytes).says)
      (sym (twelve_exactly out) ∙ eq-eqb (answer_on ws bytes out).long 0 none) in
      let a = short (done_on ws bytes) ws out less in
      (sym a.leaves, sym a.writes)

-- the first byte of what is said is that of the reply
pub first_said : (says rest : List ℕ) → 1 ≤ length says
    → cond (eqb (length says) 0) 0 (get_or (says ++ rest) 0 0) ≡ get_or says 0 0
first_said [] rest h = absurd (omega arith)
first_said (x ∷ says) rest h = ap (λ (c : Bool). cond c 0 x) (ne_eqb (length (x ∷ says)) 0 (λ e. omega arith))

-- a request whose reply is neither Taken nor gossip taken, refused, there already or a question, changes no word
module _ (ws bytes : List ℕ) where
  abbrev Keeps : Done → Type 0
  Keeps d = eqb (get_or d.says 0 0) taken_number ≡ false → eqb (get_or d.says 0 0) gossip_taken_number ≡ false
      → d.words ≡ ws

  keeps_in : (ls : List Line) → Goods ls → Keeps (done_in ls ws bytes)
  keeps_in [] g e f = bad-keeps ws
  keeps_in (l ∷ ls) g e f = go (eqb (kind_in bytes) l.number) (keeps_in ls g.1) e f
    where
      go : (c : Bool) → Keeps (done_in ls ws bytes) → Keeps (cond c (l.done ws bytes) (done_in ls ws bytes))
      go true rest = g.0.keeps ws bytes
      go false rest = rest

  done-keeps : Keeps (done_on ws bytes)
  unfolding done_on
  done-keeps = keeps_in lines goods

  pub answer_keeps :
      (out : List ℕ) → let a = answer_on ws bytes out in
      eqb (kind_said a) 5 ≡ false → eqb (kind_said a) 10 ≡ false → a.words ≡ ws
  unfolding answer_by given
  answer_keeps out = go (ltb (length out) (length says))
    where
      says : List ℕ
      says = (done_on ws bytes).says

      first : cond (eqb (length says) 0) 0 (get_or (says ++ drop (length says) out) 0 0) ≡ get_or says 0 0
      first = first_said says (drop (length says) out) (within ws bytes).some

      go : (short : Bool) → let a = given ws bytes out short in eqb (kind_said a) 5 ≡ false → eqb (kind_said a) 10
          ≡ false
          → a.words ≡ ws
      go true e f = refl
      go false e f = done-keeps (ap (λ (k : ℕ). eqb k 5) (sym first) ∙ e) (ap (λ (k : ℕ). eqb k 10) (sym first) ∙ f)

-- two outcomes that both meet what answering promises are equal
pub one_answer :
    (o : Answered) (long long' : ℕ) (words words' bytes bytes' : List ℕ) → Answers o long words bytes
    → Answers o long' words' bytes' → (long ≡ long') × (words ≡ words') × (bytes ≡ bytes')
one_answer o long long' words words' bytes bytes' p q =
    (p.gives ∙ sym q.gives, p.leaves ∙ sym q.leaves, p.writes ∙ sym q.writes)
