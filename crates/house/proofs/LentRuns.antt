-- A run over lent slices and bytes is a run of the books that they hold, so the third demand speaks of it. Assumes
-- nothing.
use Prim.Native.Nat.{ℕ, ◌≤◌, ◌<◌}
use native.Mathlib.Omega.{arith}
use mathlib.Core.Path.{◌≡◌, refl, sym, ap, ap₂, subst, ◌∙◌}
use mathlib.Core.Logic.{◌⊎◌, inl, inr}
use mathlib.Core.Bool.{Bool, true, false, not, cond}
use mathlib.Core.List.Memᴰ
use mathlib.Core.List.{List, [], ◌∷◌, ◌++◌, map}
use lib.Dec.{T, eqb, ltb, ltb→lt, nltb→le}
use lib.ListN.{length, get_or, take, drop}
use lib.Seq.{take_at}
use Rattle.lists.specs.TestLaws.{◌∈◌, either, is_true, here, there, none_in}
use Rattle.lists.proofs.ElementLaws.{eq→eqb}
use Rattle.lists.specs.Tests.{first_of}
use Rattle.limits.specs.Limits.{fewest, most}
use Rattle.tally.specs.Body.{body_fits}
use Rattle.ledger.specs.LimitLaws.{range-from}
use Rattle.ledger.specs.Message.{Message, in_range, message_fits}
use Rattle.ledger.specs.Record.{Record}
use Rattle.wire.specs.Kinds.{question_kind, stamp_at}
use Rattle.wire.specs.Read.{line_of, readable}
use Rattle.wire.specs.Write.{Output, refuse}
use Rattle.std.specs.Prelude.{Ok}
use Rattle.wire.specs.declared.Refusal.TheVariants.{Short}
use Rattle.message.specs.Message.{well_formed, message_of, message_bytes}
use Rattle.message.proofs.MessageLaws.{message-bytes, bytes_well}
use Rattle.meaning.specs.Book.{Book, fresh}
use Rattle.meaning.specs.BookLaws.{Sound}
use Rattle.meaning.specs.Reply.{Reply, refusal, permits}
use Rattle.meaning.specs.Request.{Request, makes, step}
use Rattle.meaning.specs.Step.{Outcome, open_stops, ask, send, gossip_step}
use Rattle.lent.specs.SoundWords.{sound-lawful}
use Rattle.lent.specs.Words.{book_long, book_of, words_of, lawful}
use Rattle.promise.specs.Lent.{Entry, of_gossip, of_tap, of_question, reads, request_in, entry_on, Lent, prompt_in}
use Rattle.promise.specs.Lent.{label_in}
use Rattle.promise.specs.Lent.{question_on, gossip_on, put_front, send_on, open_or, open_on}
use Rattle.promise.specs.LentLaws.{lent_of, book-back, entry-on, send-on}
use Rattle.house.specs.Consent.{answer_at, Consent}
use Rattle.house.specs.Demand.{HeardAs, Demand}
use Rattle.house.specs.House.{House, open_house, put, grown, after_request, after_send}
use Rattle.house.specs.House.{Step, Run}
use Rattle.house.specs.House as books
use Rattle.house.specs.LentHouse.{LentHouse, open_lent, made_by, lent_request, lent_send, MayCome, LentStep, hears}
use Rattle.house.specs.LentHouse.{sends, LentRun, opened, onward, held, LentDemand}
use Rattle.house.proofs.Consent.{no-refused-consent}
use Rattle.house.proofs.Demand.{third-demand}
use Rattle.house.proofs.Invariant.{put_either}
use Rattle.house.proofs.Runs.{run_inv}

-- the books of a run, beside the slices that hold them
pub record Same (n : ℕ) (h : LentHouse) : Type 0 where
  pub house : House
  pub run : Run n house
  pub words : (k : ℕ) → k < n → h.words k ≡ words_of (house.book k)
  pub past : (k : ℕ) → n ≤ k → house.book k ≡ fresh k n
  pub sent : h.sent ≡ map message_bytes house.sent
  pub history : h.history ≡ house.history

put-words :
    (n : ℕ) (W : ℕ → List ℕ) (B : ℕ → Book) → ((k : ℕ) → k < n → W k ≡ words_of (B k)) → (i : ℕ) (w : List ℕ) (b : Book)
    → w ≡ words_of b
    → (k : ℕ) → k < n → put W i w k ≡ words_of (put B i b k)
put-words n W B f i w b e k l =
    either (put_either W i w k)
    (λ p. either (put_either B i b k) (λ q. p.1 ∙ e ∙ ap words_of (sym q.1)) (λ q. absurd (q.0 p.0)))
    (λ p. either (put_either B i b k) (λ q. absurd (p.0 q.0)) (λ q. p.1 ∙ f k l ∙ ap words_of (sym q.1)))

-- a slice put where it was already
put_same : (n : ℕ) (W : ℕ → List ℕ) (B : ℕ → Book) → ((k : ℕ) → k < n → W k ≡ words_of (B k)) → (i : ℕ) (w : List ℕ)
    → w ≡ words_of (B i) → (k : ℕ) → k < n → put W i w k ≡ words_of (B k)
put_same n W B f i w e k l =
    either (put_either W i w k) (λ p. p.1 ∙ e ∙ ap (λ (j : ℕ). words_of (B j)) (sym p.0)) (λ p. p.1 ∙ f k l)

put-past : (n : ℕ) (B : ℕ → Book) → ((k : ℕ) → n ≤ k → B k ≡ fresh k n) → (i : ℕ) → i < n → (b : Book) (k : ℕ) → n ≤ k
    → put B i b k ≡ fresh k n
put-past n B f i u b k l = either (put_either B i b k) (λ p. absurd (omega (arith, p.0))) (λ p. p.1 ∙ f k l)

-- the messages that some bytes hold are those that were written
messages-back : (ms : List Message) → ((m : Message) → m ∈ ms → T (message_fits body_fits m))
    → map message_of (map message_bytes ms) ≡ ms
messages-back [] f = refl
messages-back (m ∷ ms) f = ap₂ ◌∷◌ (message-bytes m (f m here)) (messages-back ms (λ x y. f x (there y)))

-- bytes of some messages are those of one of them
bytes-from : (ms : List Message) (bytes : List ℕ) → bytes ∈ map message_bytes ms
    → (m : Message) × (m ∈ ms) × (bytes ≡ message_bytes m)
bytes-from [] bytes x = none_in x
bytes-from (m ∷ ms) bytes x = either (Memᴰ.cases_cons x) (λ e. (m, here, e)) (λ y. later (bytes-from ms bytes y))
  where
    later : ((z : Message) × (z ∈ ms) × (bytes ≡ message_bytes z))
        → (z : Message) × (z ∈ m ∷ ms) × (bytes ≡ message_bytes z)
    later w = (w.0, there w.1, w.2)

module _ (n : ℕ) (lo : fewest ≤ n) (hi : n ≤ most) where
  sound-of : {h : LentHouse} (s : Same n h) (k : ℕ) → k < n → Sound (s.house.book k)
  sound-of s k u = ((run_inv n lo hi s.run).screens k u).book-sound

  fits-of : {h : LentHouse} (s : Same n h) (m : Message) → m ∈ s.house.sent → T (message_fits body_fits m)
  fits-of s m x = ((run_inv n lo hi s.run).messages m x).fits

  book-of : {h : LentHouse} (s : Same n h) (k : ℕ) → k < n → book_of (h.words k) ≡ s.house.book k
  book-of s k u = ap book_of (s.words k u) ∙ book-back (s.house.book k) (sound-of s k u)

  -- the house of books that the slices hold is that of the run
  held_same : {h : LentHouse} (s : Same n h) → held n h ≡ s.house
  unfolding held
  held_same {h} s =
      let q : map message_of h.sent ≡ s.house.sent = ap (map message_of) s.sent
      ∙ messages-back s.house.sent (fits-of s) in
      λ j. record { book = λ k. at k (ltb k n) refl j; sent = q j; history = s.history j }
    where
      at : (k : ℕ) (c : Bool) → ltb k n ≡ c → cond c (book_of (h.words k)) (fresh k n) ≡ s.house.book k
      at k true e = book-of s k (ltb→lt k n (subst T (sym e) tt))
      at k false e = sym (s.past k (nltb→le k n (subst (λ (c : Bool). T (not c)) (sym e) tt)))

  -- the books after a step of the slices, by a step of the books or none
  record Next {h : LentHouse} (s : Same n h) (h' : LentHouse) : Type 0 where
    pub same : Same n h'
    pub way : Step n s.house same.house ⊎ (s.house ≡ same.house)

  not-grown : (k : ℕ) (made history : List Record) → grown (refusal k) made history ≡ history
  unfolding grown
  not-grown k made history = refl

  -- well-formed gossip that was sent as these bytes was sent as the message that they hold
  sent-message : {h : LentHouse} (s : Same n h) (bytes : List ℕ) → bytes ∈ h.sent → message_of bytes ∈ s.house.sent
  sent-message {h} s bytes x =
      go (bytes-from s.house.sent bytes (subst (λ (l : List (List ℕ)). bytes ∈ l) s.sent x))
    where
      go : ((m : Message) × (m ∈ s.house.sent) × (bytes ≡ message_bytes m)) → message_of bytes ∈ s.house.sent
      go w = subst (λ (m : Message). m ∈ s.house.sent)
          (sym (ap message_of w.2 ∙ message-bytes w.0 (fits-of s w.0 w.1))) w.1

  may_come : {h : LentHouse} (s : Same n h) (b : Book) (e : Entry) (bytes : List ℕ) → MayCome h e bytes
      → T (reads e b bytes) → books.MayCome s.house (request_in e b bytes)
  may_come s b of_gossip bytes c t = sent-message s bytes (c t)
  may_come s b of_tap bytes c t = tt
  may_come s b of_question bytes c t = tt

  next_request : {h : LentHouse} (s : Same n h) (i : ℕ) → i < n → (e : Entry) (bytes : List ℕ) → MayCome h e bytes
      → Next s (lent_request h i e bytes)
  unfolding lent_request after_request
  next_request {h} s i u e bytes may = go (reads e b bytes) refl
    where
      b : Book
      b = s.house.book i

      r : Request
      r = request_in e b bytes

      unread : Outcome
      unread = record { reply = refusal 1; book = b }

      -- what the slice answers and leaves, once it is known whether the bytes are read
      comes : (c : Bool) → reads e b bytes ≡ c → entry_on e (h.words i) bytes ≡ lent_of (cond c (step b r) unread)
      comes c p =
          ap (λ (w : List ℕ). entry_on e w bytes) (s.words i u) ∙ entry-on b (sound-of s i u) e bytes
          ∙ ap (λ (d : Bool). lent_of (cond d (step b r) unread)) p

      made : made_by e (h.words i) bytes ≡ makes b r
      made = ap (λ (x : Book). makes x (request_in e x bytes)) (book-of s i u)

      -- the history grows by what the book makes of them
      grows : (o : Outcome) → entry_on e (h.words i) bytes ≡ lent_of o
          → grown (entry_on e (h.words i) bytes).reply (made_by e (h.words i) bytes) h.history
          ≡ grown o.reply (makes b r) s.house.history
      grows o q =
          ap₂ (λ (x : Reply) (y : List Record). grown x y h.history) (ap (λ (p : Lent). p.reply) q) made
          ∙ ap (grown o.reply (makes b r)) s.history

      go : (c : Bool) → reads e b bytes ≡ c → Next s (lent_request h i e bytes)
      go true p =
          let q = comes true p in
          let at = books.asks i u r (may_come s b e bytes may (subst T (sym p) tt)) in
          record {
            same = record {
              house = after_request s.house i r;
              run = books.onward s.run at;
              words = put-words n h.words s.house.book s.words i (entry_on e (h.words i) bytes).words
                  (step b r).book (ap (λ (o : Lent). o.words) q);
              past = put-past n s.house.book s.past i u (step b r).book;
              sent = s.sent;
              history = grows (step b r) q;
            };
            way = inl at;
          }
      go false p =
          let q = comes false p in
          record {
            same = record {
              house = s.house;
              run = s.run;
              words = put_same n h.words s.house.book s.words i (entry_on e (h.words i) bytes).words
                  (ap (λ (o : Lent). o.words) q);
              past = s.past;
              sent = s.sent;
              history = grows unread q ∙ not-grown 1 (makes b r) s.house.history;
            };
            way = inr refl;
          }

  -- what stands at the front of the output is the one writing of the message
  front : (bytes out : List ℕ) (k : ℕ) → (put_front bytes out).answer ≡ Ok k
      → take k (put_front bytes out).bytes ≡ bytes
  front bytes out k e = go (ltb (length out) (length bytes)) refl e
    where
      go : (c : Bool) → ltb (length out) (length bytes) ≡ c
          → (cond c (refuse Short out)
          (record { answer = Ok (length bytes); bytes = bytes ++ drop (length bytes) out })).answer ≡ Ok k
          → take k (cond c (refuse Short out)
          (record { answer = Ok (length bytes); bytes = bytes ++ drop (length bytes) out })).bytes ≡ bytes
      go true e f = let z : ◌≡◌ {A = ℕ} 0 1 = cc in absurd (omega arith)
      go false e f = take_at bytes (drop (length bytes) out) k (cc)

  next-send : {h : LentHouse} (s : Same n h) (i : ℕ) → i < n → (out : List ℕ) (k : ℕ)
      → (send_on (h.words i) out).answer ≡ Ok k → Next s (lent_send h i out k)
  unfolding lent_send after_send
  next-send {h} s i u out k e =
      record {
        same = record {
          house = after_send s.house i;
          run = books.onward s.run (books.sends i u);
          words = s.words;
          past = s.past;
          sent = ap₂ ◌∷◌ (ap (λ (o : Output). take k o.bytes) square
              ∙ front (message_bytes (send (s.house.book i))) out k (sym (ap (λ (o : Output). o.answer) square) ∙ e))
              s.sent;
          history = s.history;
        };
        way = inl (books.sends i u);
      }
    where
      square : send_on (h.words i) out ≡ put_front (message_bytes (send (s.house.book i))) out
      square = ap (λ (w : List ℕ). send_on w out) (s.words i u) ∙ send-on (s.house.book i) (sound-of s i u) out

  -- bytes that were sent are heard as the message that they are
  heard-sent : {h : LentHouse} (s : Same n h) (i : ℕ) → i < n → (m : Message) → m ∈ s.house.sent
      → gossip_on (h.words i) (message_bytes m) ≡ lent_of (gossip_step (s.house.book i) m)
  unfolding gossip_on
  heard-sent {h} s i u m x =
      ap (λ (w : List ℕ). gossip_on w (message_bytes m)) (s.words i u)
      ∙ entry-on (s.house.book i) (sound-of s i u) of_gossip (message_bytes m)
      ∙ ap (λ (c : Bool). lent_of
      (cond c (gossip_step (s.house.book i) (message_of (message_bytes m)))
      (record { reply = refusal 1; book = s.house.book i })))
      (is_true (well_formed (message_bytes m)) (bytes_well m (fits-of s m x)))
      ∙ ap (λ (y : Message). lent_of (gossip_step (s.house.book i) y)) (message-bytes m (fits-of s m x))

  next : {h h' : LentHouse} (s : Same n h) → LentStep n h h' → Next s h'
  next s (hears i u e bytes may) = next_request s i u e bytes may
  next s (sends i u out k e) = next-send s i u out k e

  -- each screen opened, on any slice of the one length
  fresh-words : (ws : List ℕ) (i : ℕ) → length ws ≡ book_long → i < n → (open_on ws i n).words ≡ words_of (fresh i n)
  unfolding open_on open_stops
  fresh-words ws i e u =
      ap₂ (λ (c d : Bool). (open_or ws (words_of (fresh i n))
      (first_of ((not c, refusal 11) ∷ (not d, refusal 2) ∷ []))).words)
      (is_true (eqb (length ws) book_long) (eq→eqb (length ws) book_long e))
      (is_true (in_range i n) (range-from i n lo hi u))

  same : {h : LentHouse} → LentRun n h → Same n h
  unfolding open_lent open_house
  same (opened lent f) =
      record {
        house = open_house n;
        run = books.opened;
        words = λ k u. fresh-words (lent k) k (f k u) u;
        past = λ k l. refl;
        sent = refl;
        history = refl;
      }
  same (onward r s) = (next (same r) s).same

  -- what Permission allows was answered by the book that the slice holds
  asked-book :
      {h : LentHouse} (s : Same n h) (i : ℕ) → i < n → (bytes : List ℕ)
      → T (permits (question_on (h.words i) bytes).reply)
      → (question_on (h.words i) bytes).reply
      ≡ answer_at s.house i (prompt_in (h.words i) bytes) (label_in (h.words i) bytes)
  unfolding question_on
  asked-book {h} s i u bytes y =
      go (readable (question_kind b.screens) bytes) refl
      ∙ ap (λ (x : Book). (ask b (get_or (line_of (question_kind x.screens) bytes) 1 0)
      (stamp_at 2 (line_of (question_kind x.screens) bytes))).reply) (sym (book-of s i u))
    where
      b : Book
      b = s.house.book i

      answered : Outcome
      answered = ask b (get_or (line_of (question_kind b.screens) bytes) 1 0)
          (stamp_at 2 (line_of (question_kind b.screens) bytes))

      comes : (c : Bool) → readable (question_kind b.screens) bytes ≡ c
          → (question_on (h.words i) bytes).reply ≡ (cond c answered (record { reply = refusal 1; book = b })).reply
      comes c e =
          ap (λ (w : List ℕ). (question_on w bytes).reply) (s.words i u)
          ∙ ap (λ (o : Lent). o.reply) (entry-on b (sound-of s i u) of_question bytes)
          ∙ ap (λ (d : Bool). (cond d answered (record { reply = refusal 1; book = b })).reply) e

      go : (c : Bool) → readable (question_kind b.screens) bytes ≡ c
          → (question_on (h.words i) bytes).reply ≡ answered.reply
      go true e = comes true e
      go false e = absurd (subst (λ (r : Reply). T (permits r)) (comes false e) y)

  pub lent-demand : {h : LentHouse} → LentRun n h → LentDemand n h
  lent-demand {h} r = go (same r)
    where
      go : Same n h → LentDemand n h
      go s =
          record {
            demand = subst (Demand n) (sym (held_same s)) (third-demand n lo hi s.house s.run);
            consent = subst (Consent n) (sym (held_same s)) (no-refused-consent n lo hi s.house s.run);
            books-sound = λ i u. subst (λ (w : List ℕ). T (lawful w)) (sym (s.words i u))
                (sound-lawful (s.house.book i) (sound-of s i u));
            steps = λ h' st. way st (next s st);
            refused-only = λ i u bytes x. sent i u bytes
                (bytes-from s.house.sent bytes (subst (λ (l : List (List ℕ)). bytes ∈ l) s.sent x));
            asked = λ i u bytes y. asked-book s i u bytes y
                ∙ ap (λ (x : House). answer_at x i (prompt_in (h.words i) bytes) (label_in (h.words i) bytes))
                (sym (held_same s));
          }
        where
          way : {h' : LentHouse} → LentStep n h h' → Next s h' → Step n (held n h) (held n h') ⊎ (held n h ≡ held n h')
          way {h'} st w =
              either w.way (λ x. inl
              (subst (λ (a : House). Step n a (held n h')) (sym (held_same s))
              (subst (Step n s.house) (sym (held_same w.same)) x)))
              (λ e. inr (held_same s ∙ e ∙ sym (held_same w.same)))

          sent : (i : ℕ) → i < n → (bytes : List ℕ) → ((m : Message) × (m ∈ s.house.sent) × (bytes ≡ message_bytes m))
              → HeardAs i (message_of bytes) (gossip_on (h.words i) bytes).reply
          sent i u bytes w =
              subst (λ (x : List ℕ). HeardAs i (message_of x) (gossip_on (h.words i) x).reply) (sym w.2)
              (subst (λ (y : Message). HeardAs i y (gossip_on (h.words i) (message_bytes w.0)).reply)
              (sym (message-bytes w.0 (fits-of s w.0 w.1)))
              (subst (λ (o : Lent). HeardAs i w.0 o.reply) (sym (heard-sent s i u w.0 w.1))
              ((third-demand n lo hi s.house s.run).refused-only i u w.0 w.1)))
