-- Laws of replies as bytes. Assumes nothing.
--     said-figures    an answer's values are those of the message that says it
--     say-said        so writing an answer is writing that message
--     reply-long      a reply's bytes are as many as its kind has
--     says-put        a reply stands at the output's front, or 12 where the output is shorter
--     tap-says ..     every reply of an operation can be written, whatever the words and the bytes
--     open-says       and so can open's refusals
--     tap-long ..     and how long it is at most
use Rattle.std.specs.Prelude.{ℕ, zero, suc, ◌+◌, ◌^◌, ◌≤◌, ◌<◌, ◌≡◌, Bool, true, false, ◌&&◌, ◌||◌, cond, List, [], ◌∷◌}
use Rattle.std.specs.Prelude.{eqb, ltb, leb, length, get_or, replicate}
use Rattle.std.proofs.Common.{arith, sym, ◌∙◌, lt→ltb, le→leb, leb→le}
use Rattle.std.proofs.Math.Path.{refl, ap, subst}
use Rattle.std.proofs.Math.Bool.{not}
use Rattle.std.proofs.Math.Option.{Option, none, some}
use Rattle.std.proofs.Math.Dec.{T}
use Rattle.lists.specs.TestLaws.{◌∈◌, here, there, either, clash, is_true, and_l, and_r, both, every-at, keep_le}
use Rattle.lists.proofs.ElementLaws.{first_passes}
use Rattle.lists.specs.Tests.{every, exists, first_of}
use Rattle.limits.specs.Limits.{parts, word, prompt_count, showings, log_room}
use Rattle.stamp.specs.Laws.{Fits, fits, excess-few}
use Rattle.stamp.specs.Parts.{parts_at}
use Rattle.stamp.specs.PartsLaws.{length_list}
use Rattle.stamp.specs.Stamp.{Stamp, part, merge, excess}
use Rattle.numbers.specs.Fields.{fields_fit}
use Rattle.tally.specs.Body.{says as said_tap, body_fits}
use Rattle.tally.specs.Standing.{verdict_of, unasked, accepted, declined, contested}
use Rattle.tally.specs.declared.Standing.{Standing}
use Rattle.tally.specs.declared.Tap.{Tap}
use Rattle.ledger.specs.LimitLaws.{range-parts}
use Rattle.ledger.specs.Log.{newly_applied, gathered}
use Rattle.ledger.proofs.LogLaws.{put-log}
use Rattle.ledger.specs.Message.{Message}
use Rattle.ledger.specs.Record.{Record, is_applied, stamp_of}
use Rattle.ledger.proofs.RecordLaws.{obeys, stamp-fits}
use Rattle.wire.specs.Refusal.{table_number}
use Rattle.wire.specs.declared.Refusal.{Refusal}
use Rattle.wire.specs.declared.Refusal.TheVariants.{Bad, WrongHouse, UnknownLabel, Old, Crossed, Ahead, Spent, Gap}
use Rattle.wire.specs.declared.Refusal.TheVariants.{NoRoom, Unsound, Short}
use Rattle.wire.specs.Requests.{tap_long, question_long, gossip_long}
use Rattle.wire.specs.Kinds.{bits_width, size_of, stamp_body, tap_kind, question_kind, tap_at, stamp_at, taken_kind}
use Rattle.wire.specs.Kinds.{already_kind}
use Rattle.wire.specs.Kinds.{verdict_kind, wait_kind, refusal_kind, gossip_taken_kind, in_table}
use Rattle.wire.proofs.Laws.{length-written}
use Rattle.wire.specs.Read.{line_of, readable}
use Rattle.wire.specs.Said as wire
use Rattle.wire.specs.Write.{writable, write_as}
use Rattle.message.specs.Message.{well_formed, message_of}
use Rattle.meaning.proofs.AnswerLaws.{answered-done}
use Rattle.meaning.specs.Book.{Book, known, ready, holds, standing_at, fresh}
use Rattle.meaning.specs.BookLaws.{Sound, me_in, known-fits, standing_small, showing_small}
use Rattle.meaning.specs.Reply.{Reply, taken, already, verdict, wait, refusal, gossiped, figures, is_taken, is_answered}
use Rattle.meaning.specs.Step.{Outcome, stop_or, open_stops, new_record, take_out, first_stamp, tap_stops, tap_step}
use Rattle.meaning.specs.Step.{ask_stops}
use Rattle.meaning.specs.Step.{answer_of, ask, new_ones, now_ready, now_applied, gossip_stops, gossip_step}
use Rattle.meaning.specs.Done.{TakeDone, GossipDone}
use Rattle.meaning.proofs.StepLaws.{next_word, tap_cases, gossip_cases}
use Rattle.lent.specs.SoundWords.{lawful-sound}
use Rattle.lent.specs.Words.{book_long, book_of, words_of, lawful}
use Rattle.promise.specs.Lent.{Lent, on_book, heard, tap_on, question_on, gossip_on, hear, of_tap, of_question}
use Rattle.promise.specs.Lent.{of_gossip}
use Rattle.promise.specs.Lent.{put_front, open_or, open_on}
use Rattle.promise.specs.Spoken.{spoken}
use Rattle.promise.specs.declared.Reply as answer
use Rattle.promise.specs.declared.Reply.TheVariants as says
use Rattle.answer.specs.Speech.{kind_of, sayable, bytes_for, long_of, say_on, said_of}

pub said-figures : (r : answer.Reply) → wire.figures (said_of r) ≡ figures (spoken r)
said-figures (says.Taken s) = refl
said-figures (says.Already s) = refl
said-figures (says.Verdict v) = refl
said-figures (says.Wait bits) = refl
said-figures (says.Refused k) = refl
said-figures (says.Gossiped g) = refl

pub say-said : (r : answer.Reply) (out : List ℕ)
    → say_on (spoken r) out ≡ write_as (kind_of (spoken r)) (wire.figures (said_of r)) out
unfolding say_on
say-said r out = ap (λ (line : List ℕ). write_as (kind_of (spoken r)) line out) (sym (said-figures r))

kind-long : (r : Reply) → size_of (kind_of r) ≡ long_of r
unfolding taken_kind already_kind verdict_kind wait_kind refusal_kind gossip_taken_kind
kind-long (taken s) = refl
kind-long (already s) = refl
kind-long (verdict v h a d s) = refl
kind-long (wait bits) = refl
kind-long (refusal k) = refl
kind-long (gossiped new applied) = refl

bytes-long : (r : Reply) → T (sayable r) → length (bytes_for r) ≡ size_of (kind_of r)
unfolding bytes_for
bytes-long r t = length-written (kind_of r) (figures r) t

pub reply-long : (r : Reply) → T (sayable r) → length (bytes_for r) ≡ long_of r
reply-long r t = bytes-long r t ∙ kind-long r

-- a reply that can be said stands at the front of an output that has room for it, and 12 is given exactly where
-- it has not
pub says-put : (r : Reply) (out : List ℕ) → T (sayable r) → say_on r out ≡ put_front (bytes_for r) out
unfolding say_on write_as bytes_for
says-put r out t = rw (bytes-long r t, is_true (sayable r) t)

-- every refusal can be said
pub refusal-says : (r : Refusal) → T (sayable (refusal (table_number r)))
unfolding writable refusal_kind in_table
refusal-says Bad = tt
refusal-says WrongHouse = tt
refusal-says UnknownLabel = tt
refusal-says Old = tt
refusal-says Crossed = tt
refusal-says Ahead = tt
refusal-says Spent = tt
refusal-says Gap = tt
refusal-says NoRoom = tt
refusal-says Unsound = tt
refusal-says Short = tt

-- a reply that can be written in so many bytes
abbrev within : ℕ → Reply → Bool
within m r = sayable r && leb (long_of r) m

within-long : (m : ℕ) (r : Reply) → T (within m r) → length (bytes_for r) ≤ m
within-long m r t = omega (
  arith,
  reply-long r (and_l (sayable r) (leb (long_of r) m) t),
  leb→le (long_of r) m (and_r (sayable r) (leb (long_of r) m) t),
)

-- values in their widths: a stamp that fits a house is eight numbers of four bytes
same_width : (w n : ℕ) (s : List ℕ) → length s ≡ n → ((k : ℕ) → part s k < 256 ^ w)
    → T (fields_fit (replicate n w) s)
same_width w zero [] e f = tt
same_width w zero (x ∷ s) e f = absurd (omega arith)
same_width w (suc n) [] e f = absurd (omega arith)
same_width w (suc n) (x ∷ s) e f =
    both (ltb x (256 ^ w)) (fields_fit (replicate n w) s) (lt→ltb x (256 ^ w) (f 0))
    (same_width w n s (omega arith) (λ k. f (suc k)))

stamp-fields : (n : ℕ) (s : Stamp) → Fits n s → T (fields_fit stamp_body s)
unfolding word
stamp-fields n s f = same_width 4 parts s f.long f.words

say-taken : (n : ℕ) (s : Stamp) → Fits n s → T (within tap_long (taken s))
unfolding writable taken_kind
say-taken n s f = both (fields_fit stamp_body s && true) true
    (both (fields_fit stamp_body s) true (stamp-fields n s f) tt)
    tt

say-already : (n : ℕ) (s : Stamp) → Fits n s → T (within tap_long (already s))
unfolding writable already_kind
say-already n s f = both (fields_fit stamp_body s && true) true
    (both (fields_fit stamp_body s) true (stamp-fields n s f) tt) tt

say-verdict : (n v h a d : ℕ) (s : Stamp) → v ≤ 3 → h < 256 ^ 2 → a < 256 ^ 4 → d < 256 ^ 4 → Fits n s
    → T (within question_long (verdict v h a d s))
unfolding writable verdict_kind
say-verdict n v h a d s p q x y f =
    both (values && leb v 3) true
    (both values (leb v 3)
    (both (ltb v (256 ^ 1)) (ltb h (256 ^ 2) && counts) (lt→ltb v (256 ^ 1) (omega arith))
    (both (ltb h (256 ^ 2)) counts (lt→ltb h (256 ^ 2) q)
    (both (ltb a (256 ^ 4)) (ltb d (256 ^ 4) && fields_fit stamp_body s) (lt→ltb a (256 ^ 4) x)
    (both (ltb d (256 ^ 4)) (fields_fit stamp_body s) (lt→ltb d (256 ^ 4) y) (stamp-fields n s f)))))
    (le→leb v 3 p))
    tt
  where
    counts : Bool
    counts = ltb a (256 ^ 4) && (ltb d (256 ^ 4) && fields_fit stamp_body s)

    values : Bool
    values = ltb v (256 ^ 1) && (ltb h (256 ^ 2) && counts)

say-wait : (bits : ℕ) → bits < 256 ^ bits_width → T (within question_long (wait bits))
unfolding writable wait_kind
say-wait bits h = both ((ltb bits (256 ^ bits_width) && true) && true) true
    (both (ltb bits (256 ^ bits_width) && true) true
    (both (ltb bits (256 ^ bits_width)) true (lt→ltb bits (256 ^ bits_width) h) tt) tt) tt

say-gossiped : (new applied : ℕ) → new < 256 ^ 2 → applied < 256 ^ 2
    → T (within gossip_long (gossiped new applied))
unfolding writable gossip_taken_kind
say-gossiped new applied p q =
    both ((ltb new (256 ^ 2) && (ltb applied (256 ^ 2) && true)) && true) true
    (both (ltb new (256 ^ 2) && (ltb applied (256 ^ 2) && true)) true
    (both (ltb new (256 ^ 2)) (ltb applied (256 ^ 2) && true) (lt→ltb new (256 ^ 2) p)
    (both (ltb applied (256 ^ 2)) true (lt→ltb applied (256 ^ 2) q) tt)) tt)
    tt

-- stops whose replies can be written, each where its test holds
infixr 30 ◌next◌
data Says (p : Reply → Bool) : List (Bool × Reply) → Type 0 where
  end : Says p []
  ◌next◌ : {c : Bool} {q : Reply} {cs : List (Bool × Reply)} → (T c → T (p q)) → Says p cs
      → Says p ((c, q) ∷ cs)

first_says : (p : Reply → Bool) {cs : List (Bool × Reply)} → Says p cs → (r : Reply) → first_of cs ≡ some r
    → T (p r)
first_says p end r e = let z : ◌≡◌ {A = ℕ} 0 1 = cc in absurd (omega arith)
first_says p (◌next◌ {c} {q} {cs} f rest) r e = go c f (λ w. first_says p rest r w) e
  where
    go : (d : Bool) → (T d → T (p q)) → (first_of cs ≡ some r → T (p r)) → cond d (some q) (first_of cs) ≡ some r
        → T (p r)
    go true g later w = let z : q ≡ r = cc in subst (λ (x : Reply). T (p x)) z (g tt)
    go false g later w = later w

-- Tap: the value stamp fits, and so do the stamps of log records and of the new record
module _ (b : Book) (s : Sound b) (t : Tap) (l : Stamp) where
  log-stamp : (r : Record) → r ∈ b.log → Fits b.screens (stamp_of r)
  log-stamp r m =
      let o = obeys body_fits b.screens r (s.log-obeys r m) in
      let low : r.number < word = omega (arith, s.log-known r m, (known-fits b s).words r.origin) in
      stamp-fits b.screens r o.label-fits o.origin_lt (range-parts b.me b.screens s.range) low

  first-stamp : (rs : List Record) → ((r : Record) → r ∈ rs → Fits b.screens (stamp_of r))
      → T (exists (holds t) rs)
      → Fits b.screens (first_stamp t rs)
  first-stamp [] f h = absurd h
  first-stamp (r ∷ rs) f h = go (holds t r) (λ w. first-stamp rs (λ x m. f x (there m)) w) h
    where
      go : (c : Bool) → (T (exists (holds t) rs) → Fits b.screens (first_stamp t rs))
          → T (c || exists (holds t) rs)
          → Fits b.screens (cond c (stamp_of r) (first_stamp t rs))
      go true later w = f r here
      go false later w = later w

  tap-stops : Says (within tap_long) (tap_stops b t l)
  unfolding tap_stops writable refusal_kind in_table
  tap-stops =
      (λ h. tt)
      next (λ h. tt)
      next (λ h. tt)
      next (λ h. say-already b.screens b.value (fits b.screens b.value s.value-fits))
      next (λ h. say-already b.screens (first_stamp t b.log) (first-stamp b.log log-stamp h))
      next (λ h. tt)
      next (λ h. tt)
      next end

  new-stamp : TakeDone b (said_tap t) l → Fits b.screens (stamp_of (new_record b (said_tap t) l))
  unfolding new_record
  new-stamp d =
      stamp-fits b.screens (new_record b (said_tap t) l) (fits b.screens l d.label-fits) (me_in b s)
      (range-parts b.me b.screens s.range) (next_word b (said_tap t) l d)

  tap-within : T (within tap_long (tap_step b t l).reply)
  unfolding tap_step
  tap-within =
      either (tap_cases b t l)
      (λ w. subst (λ (o : Outcome). T (within tap_long o.reply)) (sym w.2) (stopped w.0 w.1 w.2))
      (λ w. subst (λ (o : Outcome). T (within tap_long o.reply)) (sym w.1)
      (say-taken b.screens (stamp_of (new_record b (said_tap t) l)) (new-stamp w.0)))
    where
      stopped : (r : Reply) → T (not (is_taken r)) → tap_step b t l ≡ record { reply = r; book = b }
          → T (within tap_long r)
      stopped r n e = go (first_of (tap_stops b t l)) refl
        where
          given : (o : Option Reply) → first_of (tap_stops b t l) ≡ o
              → (stop_or b (take_out b (said_tap t) l) o).reply ≡ r
          given o f =
              ap (λ (x : Option Reply). (stop_or b (take_out b (said_tap t) l) x).reply) (sym f)
              ∙ ap (λ (x : Outcome). x.reply) e

          go : (o : Option Reply) → first_of (tap_stops b t l) ≡ o → T (within tap_long r)
          go (some q) f = subst (λ (x : Reply). T (within tap_long x)) (given (some q) f)
              (first_says (within tap_long) tap-stops q f)
          go none f = clash (is_taken r) (subst (λ (x : Reply). T (is_taken x)) (given none f) tt) n

-- Question: a showing fits two bytes, the counts are at most the counted taps, the lacking bits are one byte
verdict-most : (x : Standing) → verdict_of x ≤ 3
unfolding verdict_of unasked accepted declined contested
verdict-most x = go (ltb 0 x.accepts) (ltb 0 x.declines)
  where
    go : (p q : Bool) → cond p (cond q contested accepted) (cond q declined unasked) ≤ 3
    go true true = omega arith
    go true false = omega arith
    go false true = omega arith
    go false false = omega arith

module _ (b : Book) (s : Sound b) (p : ℕ) (l : Stamp) where
  ask-stops : length l ≤ parts → Says (within question_long) (ask_stops b p l)
  unfolding ask_stops writable refusal_kind in_table
  ask-stops e = (λ h. tt) next (λ h. tt) next (λ h. tt)
      next (λ h. say-wait (excess l b.value) (omega (arith, excess-few l b.value e))) next end

  answer-within : p < prompt_count → T (within question_long (answer_of (standing_at b p) b.value))
  unfolding answer_of word showings
  answer-within h =
      let x = standing_at b p in
      let shown : x.showing < 256 ^ 2 = omega (arith, showing_small b s p h) in
      let few : x.accepts + x.declines < word = omega (arith, standing_small b s p h) in
      say-verdict b.screens (verdict_of x) x.showing x.accepts x.declines b.value (verdict-most x)
      shown
      (omega (arith, few)) (omega (arith, few)) (fits b.screens b.value s.value-fits)

  ask-within : length l ≤ parts → T (within question_long (ask b p l).reply)
  unfolding ask answer_of
  ask-within e = go (first_of (ask_stops b p l)) refl
    where
      out : Outcome
      out = record { reply = answer_of (standing_at b p) b.value; book = b }

      go : (o : Option Reply) → first_of (ask_stops b p l) ≡ o
          → T (within question_long (stop_or b out (first_of (ask_stops b p l))).reply)
      go (some r) f = subst (λ (o : Option Reply). T (within question_long (stop_or b out o).reply)) (sym f)
          (first_says (within question_long) (ask-stops e) r f)
      go none f =
          subst (λ (o : Option Reply). T (within question_long (stop_or b out o).reply)) (sym f)
          (answer-within (answered-done b p l
          (subst (λ (o : Option Reply). T (is_answered (stop_or b out o).reply)) (sym f) tt)).prompt_in_lem)

-- Gossip: at most 256 records are new, and at most those and the log become applied
module _ (b : Book) (m : Message) where
  applied-few : (new : List Record) (x : Stamp) → length (now_applied b x new) ≤ length new + length b.log
  unfolding now_applied newly_applied
  applied-few new x =
      let few = keep_le (λ r. is_applied (now_ready b x new) r && not (is_applied (ready b) r))
      (gathered new b.log) in
      omega (arith, few, (put-log new b.log).long)

  gossip-counts : GossipDone b m
      → (length (new_ones b m) < 256 ^ 2)
      × (length (now_applied b (merge (known b) m.stamp) (new_ones b m)) < 256 ^ 2)
  unfolding log_room
  gossip-counts d = (
    omega (arith, d.room),
    omega (arith, applied-few (new_ones b m) (merge (known b) m.stamp), d.room),
  )

  gossip-stops : T (every (λ c. within gossip_long c.1) (gossip_stops b m))
  unfolding gossip_stops writable refusal_kind in_table
  gossip-stops = tt

  gossip-within : T (within gossip_long (gossip_step b m).reply)
  gossip-within =
      either (gossip_cases b m)
      (λ w. subst (λ (o : Outcome). T (within gossip_long o.reply)) (sym w.2)
      (subst (λ (x : Reply). T (within gossip_long x)) w.1.3
      (every-at (λ c. within gossip_long c.1) (gossip_stops b m) gossip-stops w.1.1)))
      (λ w. subst (λ (o : Outcome). T (within gossip_long o.reply)) (sym w.1)
      (say-gossiped (length (new_ones b m)) (length (now_applied b (merge (known b) m.stamp) (new_ones b m)))
      (gossip-counts w.0).0 (gossip-counts w.0).1))

-- 11 where the words are no sound book, 1 where the bytes are no message of the kind
on-within : (n : ℕ) (ws : List ℕ) (o : Outcome) → T (within n (refusal 11))
    → (Sound (book_of ws) → T (within n o.reply)) → T (within n (on_book ws o).reply)
on-within n ws o unsound f = go (lawful ws) refl
  where
    go : (c : Bool) → lawful ws ≡ c
        → T (within n (cond {A = Lent} c (record { reply = o.reply; words = words_of o.book })
        (record { reply = refusal 11; words = ws })).reply)
    go true e = f (lawful-sound ws (subst T (sym e) tt))
    go false e = unsound

heard-within : (n : ℕ) (c : Bool) (b : Book) (o : Outcome) → T (within n (refusal 1)) → T (within n o.reply)
    → T (within n (heard c b o).reply)
heard-within n true b o unread h = h
heard-within n false b o unread h = unread

module _ (ws bytes : List ℕ) where
  tap_fine : T (within tap_long (tap_on ws bytes).reply)
  unfolding tap_on writable refusal_kind in_table
  tap_fine =
      let b = book_of ws in
      let k = tap_kind b.screens in
      on-within tap_long ws (hear of_tap b bytes) tt
      (λ s. heard-within tap_long (readable k bytes) b
      (tap_step b (tap_at 1 (line_of k bytes)) (stamp_at 6 (line_of k bytes))) tt
      (tap-within b s (tap_at 1 (line_of k bytes)) (stamp_at 6 (line_of k bytes))))

  question_fine : T (within question_long (question_on ws bytes).reply)
  unfolding question_on writable refusal_kind in_table
  question_fine =
      let b = book_of ws in
      let k = question_kind b.screens in
      let l = stamp_at 2 (line_of k bytes) in
      on-within question_long ws (hear of_question b bytes) tt
      (λ s. heard-within question_long (readable k bytes) b (ask b (get_or (line_of k bytes) 1 0) l) tt
      (ask-within b s (get_or (line_of k bytes) 1 0) l (omega (arith, length_list (parts_at 2 (line_of k bytes))))))

  gossip_fine : T (within gossip_long (gossip_on ws bytes).reply)
  unfolding gossip_on writable refusal_kind in_table
  gossip_fine =
      let b = book_of ws in
      on-within gossip_long ws (hear of_gossip b bytes) tt
      (λ s. heard-within gossip_long (well_formed bytes) b (gossip_step b (message_of bytes)) tt
      (gossip-within b (message_of bytes)))

  pub tap-says : T (sayable (tap_on ws bytes).reply)
  tap-says = and_l (sayable (tap_on ws bytes).reply) (leb (long_of (tap_on ws bytes).reply) tap_long) tap_fine

  pub question-says : T (sayable (question_on ws bytes).reply)
  question-says = and_l (sayable (question_on ws bytes).reply)
      (leb (long_of (question_on ws bytes).reply) question_long)
      question_fine

  pub gossip-says : T (sayable (gossip_on ws bytes).reply)
  gossip-says = and_l (sayable (gossip_on ws bytes).reply) (leb (long_of (gossip_on ws bytes).reply) gossip_long)
      gossip_fine

  pub tap-long : length (bytes_for (tap_on ws bytes).reply) ≤ tap_long
  tap-long = within-long tap_long (tap_on ws bytes).reply tap_fine

  pub question-long : length (bytes_for (question_on ws bytes).reply) ≤ question_long
  question-long = within-long question_long (question_on ws bytes).reply question_fine

  pub gossip-long : length (bytes_for (gossip_on ws bytes).reply) ≤ gossip_long
  gossip-long = within-long gossip_long (gossip_on ws bytes).reply gossip_fine

pub open-says : (ws : List ℕ) (i n : ℕ) (r : Reply) → (open_on ws i n).refused ≡ some r → T (sayable r)
unfolding open_on open_stops writable refusal_kind in_table
open-says ws i n r = go (first_of stops) refl
  where
    stops : List (Bool × Reply)
    stops = open_stops (eqb (length ws) book_long) i n

    go : (o : Option Reply) → first_of stops ≡ o → (open_or ws (words_of (fresh i n)) o).refused ≡ some r
        → T (sayable r)
    go none e f = let z : ◌≡◌ {A = ℕ} 0 1 = cc in absurd (omega arith)
    go (some q) e f = let z : q ≡ r = cc in
        subst (λ (x : Reply). T (sayable x)) z (first_passes sayable stops tt q e)
