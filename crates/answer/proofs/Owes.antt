-- Laws: what each answer owes, of what the operation promises and what stands at the output's front. Assumes nothing.
use Prim.Native.Nat.{ℕ, ◌≤◌, ◌<◌}
use native.Mathlib.Omega.{arith}
use mathlib.Core.Path.{◌≡◌, refl, sym, ap, ap₂, subst, ◌∙◌}
use mathlib.Core.Logic.{◌⊎◌, inl, inr}
use mathlib.Core.Bool.{Bool, true, false, cond}
use mathlib.Core.List.{List, ◌++◌}
use mathlib.Core.Option.{none, some}
use borrow.Author.Tests.{ltb-true, ltb-false, eq-eqb, ne_eqb}
use lib.Dec.{T, eqb, eqb→eq, ltb}
use lib.ListN.{length, get_or, drop}
use Rattle.lists.specs.TestLaws.{either, is_true}
use Rattle.limits.specs.KindNumbers.{taken_number, gossip_taken_number}
use Rattle.wire.specs.Requests.{tap_long, gossip_long}
use Rattle.wire.specs.Kinds.{message_long, open_kind}
use Rattle.wire.specs.Read.{line_of, readable, read_as}
use Rattle.wire.proofs.ReadLaws.{told}
use Rattle.wire.specs.Write.{Written, Output, Meets, refuse}
use Rattle.wire.specs.Says.{open_says}
use Rattle.std.specs.Prelude.{Ok, Err}
use Rattle.wire.specs.Refusal.{table_number}
use Rattle.wire.specs.declared.Open as opening
use Rattle.wire.specs.declared.Refusal.{Refusal}
use Rattle.wire.specs.declared.Refusal.TheVariants.{Bad, Unsound, Short}
use Rattle.message.specs.Message.{message_bytes}
use Rattle.meaning.specs.Reply.{Reply, refusal, figures, is_taken, is_gossiped}
use Rattle.meaning.specs.Step.{send}
use Rattle.lent.specs.Words.{book_long, book_of, lawful}
use Rattle.promise.specs.KeepsLaws.{tap-clear, gossip-clear}
use Rattle.promise.specs.Lent.{Lent, Promise, tap_on, tap_stop, gossip_on, gossip_stop, put_front, send_on, open_on}
use Rattle.promise.specs.Spoken.{spoken}
use Rattle.promise.specs.declared.Reply as answer
use Rattle.promise.specs.declared.Reply.TheVariants as says
use Rattle.open_step.specs.Opening.{Opening, Opens}
use Rattle.open_step.specs.OpeningLaws.{wrong-length}
use Rattle.book.specs.Heard.{owes_unsound, owes_unread}
use Rattle.answer.specs.Speech.{bytes_for, sayable, long_of, say_on}
use Rattle.answer.specs.SpeechLaws.{says-put, reply-long, tap-says, gossip-says}
use Rattle.answer.specs.Answer.{Done, done_by, send_says, send_done, bad_on, answer_by, Answers, open_from}
use Rattle.answer.specs.Answer.{long_in}
use Rattle.answer.specs.AnswerLaws.{short, front, unsound-says}

-- no bytes have kind 0
-- what is owed for what a message comes to
pub same-done : {d e : Done} (ws out : List ℕ) (long : ℕ) (words bytes : List ℕ) → d ≡ e
    → Answers (answer_by e ws out) long words bytes → Answers (answer_by d ws out) long words bytes
same-done ws out long words bytes q a = subst (λ (x : Done). Answers (answer_by x ws out) long words bytes) (sym q) a

-- a reply at the front of an output
pub put-long : (q : Reply) (out : List ℕ) (w : Written) (bytes : List ℕ) → T (sayable q) → Meets (say_on q out) w bytes
    → long_in w ≡ long_in (put_front (bytes_for q) out).answer
put-long q out w bytes t m = ap long_in (m.answers ∙ ap (λ (o : Output). o.answer) (says-put q out t))

pub put-bytes : (q : Reply) (out : List ℕ) (w : Written) (bytes : List ℕ) → T (sayable q) → Meets (say_on q out) w bytes
    → bytes ≡ (put_front (bytes_for q) out).bytes
put-bytes q out w bytes t m = m.leaves ∙ ap (λ (o : Output). o.bytes) (says-put q out t)

-- what an operation answers can be said
pub answer-says : (o : Lent) (r : answer.Reply) (words : List ℕ) → Promise o r words → T (sayable o.reply)
    → T (sayable (spoken r))
answer-says o r words p t = subst (λ (q : Reply). T (sayable q)) (sym p.answers) t

-- what is said put at the front of an output: where it is shorter the words stay, else they are those that are left
pub put-owes :
    (d : Done) (ws out words : List ℕ) (long : ℕ) (bytes : List ℕ) → long ≡ long_in (put_front d.says out).answer
    → bytes ≡ (put_front d.says out).bytes
    → (length out < length d.says → words ≡ ws) → (length d.says ≤ length out → words ≡ d.words)
    → Answers (answer_by d ws out) long words bytes
put-owes d ws out words long bytes = go (ltb (length out) (length d.says)) refl
  where
    put : Bool → Output
    put c = cond c (refuse Short out)
        (record { answer = Ok (length d.says); bytes = d.says ++ drop (length d.says) out })

    go : (c : Bool) → ltb (length out) (length d.says) ≡ c → long ≡ long_in (put c).answer → bytes ≡ (put c).bytes
        → (length out < length d.says → words ≡ ws) → (length d.says ≤ length out → words ≡ d.words)
        → Answers (answer_by d ws out) long words bytes
    go true e p q s f =
        let h = ltb-true (length out) (length d.says) e in
        let a = short d ws out h in
        record { gives = p ∙ a.gives; leaves = s h ∙ a.leaves; writes = q ∙ a.writes }
    go false e p q s f =
        let h = ltb-false (length out) (length d.says) e in
        let a = front d ws out h in
        record { gives = p ∙ a.gives; leaves = f h ∙ a.leaves; writes = q ∙ a.writes }

-- an operation's answer put there: one that changes no word, and one that has room
module _ (o : Lent) (ws out words : List ℕ) (r : answer.Reply) (p : Promise o r words) (long : ℕ) (bytes : List ℕ)
    (e : long ≡ long_in (put_front (bytes_for (spoken r)) out).answer)
    (f : bytes ≡ (put_front (bytes_for (spoken r)) out).bytes) where
  gives : long ≡ long_in (put_front (bytes_for o.reply) out).answer
  gives = e ∙ ap (λ (q : Reply). long_in (put_front (bytes_for q) out).answer) p.answers

  writes : bytes ≡ (put_front (bytes_for o.reply) out).bytes
  writes = f ∙ ap (λ (q : Reply). (put_front (bytes_for q) out).bytes) p.answers

  pub owes-kept : words ≡ ws → Answers (answer_by (done_by o) ws out) long words bytes
  owes-kept k = put-owes (done_by o) ws out words long bytes gives writes (λ h. k) (λ h. p.leaves)

  pub owes-room : length (bytes_for o.reply) ≤ length out → Answers (answer_by (done_by o) ws out) long words bytes
  owes-room l = put-owes (done_by o) ws out words long bytes gives writes (λ h. absurd (omega (arith, h, l)))
      (λ h. p.leaves)

-- what is taken says Taken, and gossip that is taken says so
pub tap-room : (ws bytes : List ℕ) → tap_stop ws bytes ≡ none → length (bytes_for (tap_on ws bytes).reply) ≡ tap_long
tap-room ws bytes e = reply-long (tap_on ws bytes).reply (tap-says ws bytes)
    ∙ taken-long (tap_on ws bytes).reply (tap-clear ws bytes e)
  where
    taken-long : (r : Reply) → T (is_taken r) → long_of r ≡ tap_long
    taken-long r t = ap message_long (eqb→eq (get_or (figures r) 0 0) taken_number t)

pub gossip-room : (ws bytes : List ℕ) → gossip_stop ws bytes ≡ none
    → length (bytes_for (gossip_on ws bytes).reply) ≡ gossip_long
gossip-room ws bytes e =
    reply-long (gossip_on ws bytes).reply (gossip-says ws bytes)
    ∙ gossiped-long (gossip_on ws bytes).reply (gossip-clear ws bytes e)
  where
    gossiped-long : (r : Reply) → T (is_gossiped r) → long_of r ≡ gossip_long
    gossiped-long r t = ap message_long (eqb→eq (get_or (figures r) 0 0) gossip_taken_number t)

-- bytes that are no request
module _ (ws : List ℕ) where
  pub bad_unsound : lawful ws ≡ false → Promise (bad_on ws) (says.Refused 11) ws
  bad_unsound e = owes_unsound ws e (record { reply = refusal 1; book = book_of ws })

  pub bad_unread : lawful ws ≡ true → Promise (bad_on ws) (says.Refused 1) ws
  bad_unread e = owes_unread ws e false refl (record { reply = refusal 1; book = book_of ws })

-- send's
module _ (ws out : List ℕ) where
  message : List ℕ
  message = message_bytes (send (book_of ws))

  abbrev sent : Bool → Bool → Output
  sent sound short = cond sound
      (cond short (refuse Short out)
      (record { answer = Ok (length message); bytes = message ++ drop (length message) out })) (refuse Unsound out)

  abbrev done : Bool → Done
  done sound = let says = cond sound message (bytes_for (refusal 11)) in record { says = says; words = ws }

  pub send-wrote : (n : ℕ) (bytes : List ℕ) (w : Written) → w ≡ Ok n → Meets (send_on ws out) w bytes
      → Answers (answer_by (send_done ws) ws out) n ws bytes
  unfolding send_on message
  send-wrote n bytes w f m =
      go (lawful ws) (ltb (length out) (length message)) refl
      (subst (λ (x : Written). Meets (send_on ws out) x bytes) f m)
    where
      go : (sound short : Bool) → ltb (length out) (length message) ≡ short → Meets (sent sound short) (Ok n) bytes
          → Answers (answer_by (done sound) ws out) n ws bytes
      go true true e q = let a = q.answers in let z : ◌≡◌ {A = ℕ} 0 1 = cc in absurd (omega arith)
      go true false e q =
          let a = front (done true) ws out (ltb-false (length out) (length message) e) in
          let same : n ≡ length message = let x = q.answers in cc in
          record { gives = same ∙ a.gives; leaves = a.leaves; writes = q.leaves ∙ a.writes }
      go false short e q = let a = q.answers in let z : ◌≡◌ {A = ℕ} 0 1 = cc in absurd (omega arith)

  -- 12 and nothing done, or 11
  send-refused : (k : Refusal) (bytes : List ℕ) → Meets (send_on ws out) (Err k) bytes
      → (bytes ≡ out) × (((k ≡ Short) × (length out < length (send_says ws)))
      ⊎ ((k ≡ Unsound) × (send_says ws ≡ bytes_for (refusal 11))))
  unfolding send_on message
  send-refused k bytes m = go (lawful ws) (ltb (length out) (length message)) refl m
    where
      go : (sound short : Bool) → ltb (length out) (length message) ≡ short → Meets (sent sound short) (Err k) bytes
          → (bytes ≡ out) × (((k ≡ Short) × (length out < length (done sound).says))
          ⊎ ((k ≡ Unsound) × ((done sound).says ≡ bytes_for (refusal 11))))
      go true true e q = let a = q.answers in (q.leaves, inl (cc, ltb-true (length out) (length message) e))
      go true false e q = let a = q.answers in let z : ◌≡◌ {A = ℕ} 0 1 = cc in absurd (omega arith)
      go false short e q = let a = q.answers in (q.leaves, inr (cc, refl))

  module _ (k : Refusal) (bytes : List ℕ) (w : Written) (e : w ≡ Err k) (m : Meets (send_on ws out) w bytes) where
    refused : (bytes ≡ out) × (((k ≡ Short) × (length out < length (send_says ws)))
        ⊎ ((k ≡ Unsound) × (send_says ws ≡ bytes_for (refusal 11))))
    refused = send-refused k bytes (subst (λ (x : Written). Meets (send_on ws out) x bytes) e m)

    not_done : length out < length (send_says ws) → Answers (answer_by (send_done ws) ws out) 0 ws bytes
    not_done h = let a = short (send_done ws) ws out h in
        record { gives = a.gives; leaves = a.leaves; writes = refused.0 ∙ a.writes }

    pub send-short : table_number k ≡ 12 → Answers (answer_by (send_done ws) ws out) 0 ws bytes
    send-short f = either refused.1 (λ x. not_done x.1) (λ x. absurd (omega (arith, f, ap table_number x.0)))

    unsound : (table_number k ≡ 12 → ⊥) → (k ≡ Unsound) × (send_says ws ≡ bytes_for (refusal 11))
    unsound n = either refused.1 (λ x. absurd (n (ap table_number x.0))) (λ x. x)

    -- 11 is put like any other reply
    pub send-ready : (table_number k ≡ 12 → ⊥) → T (sayable (spoken (says.Refused (table_number k))))
    send-ready n =
        subst (λ (x : Refusal). T (sayable (spoken (says.Refused (table_number x))))) (sym (unsound n).0) unsound-says

    pub send-owes :
        (table_number k ≡ 12 → ⊥) → (long : ℕ) (after : List ℕ)
        → long ≡ long_in (put_front (bytes_for (spoken (says.Refused (table_number k)))) bytes).answer
        → after ≡ (put_front (bytes_for (spoken (says.Refused (table_number k)))) bytes).bytes
        → Answers (answer_by (send_done ws) ws out) long ws after
    send-owes n long after f g =
        let same : bytes_for (spoken (says.Refused (table_number k)))
        ≡ send_says ws = ap (λ (x : Refusal). bytes_for (spoken (says.Refused (table_number x)))) (unsound n).0
        ∙ sym (unsound n).1 in
        put-owes (send_done ws) ws out ws long after
        (f ∙ ap₂ (λ (x y : List ℕ). long_in (put_front x y).answer) same refused.0)
        (g ∙ ap₂ (λ (x y : List ℕ). (put_front x y).bytes) same refused.0) (λ h. refl) (λ h. refl)

-- opening by bytes
module _ (ws bytes : List ℕ) where
  pub opens-long : (length ws ≡ book_long → ⊥) → Opens (open_from ws bytes) (Err Unsound) ws
  unfolding open_from
  opens-long n = go (readable open_kind bytes)
    where
      go : (c : Bool)
          → Opens (cond c (open_on ws (get_or (line_of open_kind bytes) 1 0) (get_or (line_of open_kind bytes) 2 0))
          (record { refused = some (cond (eqb (length ws) book_long) (refusal 1) (refusal 11)); words = ws }))
          (Err Unsound) ws
      go true = wrong-length ws (get_or (line_of open_kind bytes) 1 0) (get_or (line_of open_kind bytes) 2 0)
          (ne_eqb (length ws) book_long n)
      go false = rw (ne_eqb (length ws) book_long n) (record { answers = refl; leaves = refl })

  pub opens_unread : length ws ≡ book_long → readable open_kind bytes ≡ false
      → Opens (open_from ws bytes) (Err Bad) ws
  unfolding open_from
  opens_unread e f = rw (f, eq-eqb (length ws) book_long e) (record { answers = refl; leaves = refl })

  pub opens-read :
      (o : opening.Open) → Ok (open_says o) ≡ read_as open_kind bytes → (r : Opening) (words : List ℕ)
      → Opens (open_on ws o.screen o.screens) r words → Opens (open_from ws bytes) r words
  unfolding open_from open_kind
  opens-read o read r words p =
      let t = told open_kind bytes (open_says o) read in
      let line = line_of open_kind bytes in
      let q = t.1 in
      let first : o.screen ≡ get_or line 1 0 = cc in
      let second : o.screens ≡ get_or line 2 0 = cc in
      rw (is_true (readable open_kind bytes) t.0)
      (subst (λ (x : ℕ). Opens (open_on ws x (get_or line 2 0)) r words) first
      (subst (λ (x : ℕ). Opens (open_on ws o.screen x) r words) second p))
