-- Laws: what an entry owes once it knows whether the lent book is sound and whether the bytes are read. Assumes
-- nothing.
--     owes_unsound   refusal 11, and nothing is altered
--     owes_unread    refusal 1, and nothing is altered
--     owes-step      what the step on the book that the slice holds gives
use Prim.Native.Nat.{ℕ, ◌<◌}
use Rattle.std.proofs.Common.{ap₂, ◌∙◌, ltb→lt}
use Rattle.std.specs.Prelude.{◌≡◌, refl, Bool, true, false, ◌&&◌, cond, ltb, Ok, Err}
use Rattle.std.proofs.Math.Path.{sym, ap, subst}
use mathlib.Core.List.{List, ◌∷◌}
use Rattle.std.proofs.Math.Option.{Option, none, some, some-ne-none}
use Rattle.std.proofs.Math.Dec.{T}
use Rattle.std.proofs.Math.ListN.{get_or}
use Rattle.lists.specs.TestLaws.{and_l, and_r, is_true}
use Rattle.lists.specs.Tests.{first_of}
use Rattle.limits.specs.Limits.{prompt_count}
use Rattle.stamp.specs.Parts.{parts_at, list_of}
use Rattle.stamp.specs.Stamp.{stamp_fits}
use Rattle.stamp.specs.declared.Parts.{Parts}
use Rattle.tally.specs.Tap.{tap_fits}
use Rattle.tally.specs.declared.Tap.{Tap}
use Rattle.wire.specs.Kinds.{shaped, tap_at, stamp_at, tap_kind, question_kind}
use Rattle.wire.specs.Read.{line_of, readable, read_as}
use Rattle.wire.proofs.ReadLaws.{told}
use Rattle.wire.specs.Write.{Written, Output, Meets, refuse}
use Rattle.wire.specs.Says.{head_says, tap_says, question_says}
use Rattle.wire.specs.declared.Refusal.TheVariants.{Unsound}
use Rattle.wire.specs.declared.Head as gossiping
use Rattle.wire.specs.declared.Question as asking
use Rattle.wire.specs.declared.TapRequest as tapping
use Rattle.wire.specs.Head.{head_line}
use Rattle.message.specs.Message.{well_formed, message_of, read_gossip, message_bytes}
use Rattle.message.specs.Told.{gossip-told, head_in}
use Rattle.tap_step.specs.Stop.{TapStop, StopsTap}
use Rattle.gossip_step.specs.Heard.{Hears}
use Rattle.gossip_step.specs.Stop.{GossipStop, StopsGossip}
use Rattle.meaning.proofs.AnswerLaws.{ask-keeps}
use Rattle.meaning.specs.Reply.{Reply, refusal}
use Rattle.meaning.specs.Step.{Outcome, tap_stops, tap_step, ask, send, gossip_stops, gossip_step}
use Rattle.lent.specs.SoundWords.{lawful-held}
use Rattle.lent.specs.Words.{book_of, words_of, lawful}
use Rattle.promise.specs.Lent.{Lent, Promise, on_book, heard, stop_on, tap_on, tap_stop, question_on, gossip_on}
use Rattle.promise.specs.Lent.{gossip_stop}
use Rattle.promise.specs.Lent.{put_front, send_on}
use Rattle.promise.specs.LentLaws.{lent_of}
use Rattle.promise.specs.Spoken.{spoken}
use Rattle.promise.specs.declared.Reply as answer
use Rattle.promise.specs.declared.Reply.TheVariants as says
use Rattle.book.specs.Stop.{TapStopOn, GossipStopOn}

module _ (ws : List ℕ) where
  pub owes_unsound : lawful ws ≡ false → (o : Outcome) → Promise (on_book ws o) (says.Refused 11) ws
  owes_unsound e o = subst (λ (l : Lent). Promise l (says.Refused 11) ws)
      (ap (λ (c : Bool). cond c (lent_of o) (record { reply = refusal 11; words = ws })) (sym e))
      (record { answers = refl; leaves = refl })

  pub stop_unsound : lawful ws ≡ false → (c : Bool) (stop : Option Reply)
      → stop_on (lawful ws) c stop ≡ some (refusal 11)
  stop_unsound e c stop = ap (λ (d : Bool). cond d (cond c stop (some (refusal 1))) (some (refusal 11))) e

  module _ (e : lawful ws ≡ true) where
    on-sound : (o : Outcome) → on_book ws o ≡ lent_of o
    on-sound o = ap (λ (c : Bool). cond c (lent_of o) (record { reply = refusal 11; words = ws })) e

    stop-sound : (c : Bool) (stop : Option Reply) → stop_on (lawful ws) c stop ≡ cond c stop (some (refusal 1))
    stop-sound c stop = ap (λ (d : Bool). cond d (cond c stop (some (refusal 1))) (some (refusal 11))) e

    pub stop_unread : (c : Bool) → c ≡ false → (stop : Option Reply) → stop_on (lawful ws) c stop ≡ some (refusal 1)
    stop_unread c f stop = stop-sound c stop ∙ ap (λ (d : Bool). cond d stop (some (refusal 1))) f

    pub stop-read : (c : Bool) → T c → (stop : Option Reply) → stop_on (lawful ws) c stop ≡ stop
    stop-read c t stop = stop-sound c stop ∙ ap (λ (d : Bool). cond d stop (some (refusal 1))) (is_true c t)

    pub owes_unread : (c : Bool) → c ≡ false → (o : Outcome)
        → Promise (on_book ws (heard c (book_of ws) o)) (says.Refused 1) ws
    owes_unread c f o =
        let q : on_book ws (heard c (book_of ws) o)
        ≡ lent_of (record { reply = refusal 1; book = book_of ws }) = on-sound (heard c (book_of ws) o)
        ∙ ap (λ (d : Bool). lent_of (heard d (book_of ws) o)) f in
        record {
          answers = sym (ap (λ (l : Lent). l.reply) q);
          leaves = sym (lawful-held ws (subst T (sym e) tt)).words ∙ sym (ap (λ (l : Lent). l.words) q);
        }

    pub owes-step : (c : Bool) → c ≡ true → (o : Outcome) (r : answer.Reply) (w : List ℕ) → Promise (lent_of o) r w
        → Promise (on_book ws (heard c (book_of ws) o)) r w
    owes-step c f o r w p =
        let q : on_book ws (heard c (book_of ws) o) ≡ lent_of o = on-sound (heard c (book_of ws) o)
        ∙ ap (λ (d : Bool). lent_of (heard d (book_of ws) o)) f in
        subst (λ (l : Lent). Promise l r w) (sym q) p

  -- nothing stops a request: the book is sound, the bytes are read, and nothing stops the step
  pub all-clear : (c : Bool) (stop : Option Reply) → stop_on (lawful ws) c stop ≡ none
      → (lawful ws ≡ true) × (c ≡ true) × (stop ≡ none)
  all-clear c stop e = go (lawful ws) c stop e
    where
      go : (l c : Bool) (stop : Option Reply) → cond l (cond c stop (some (refusal 1))) (some (refusal 11)) ≡ none
          → (l ≡ true) × (c ≡ true) × (stop ≡ none)
      go false c stop e = absurd (some-ne-none (refusal 11) e)
      go true false stop e = absurd (some-ne-none (refusal 1) e)
      go true true stop e = (refl, refl, e)

-- a stop is the reply, and no word changes
pub owes_stop : (o : Lent) (r : answer.Reply) (ws : List ℕ) → o ≡ record { reply = spoken r; words = ws }
    → Promise o r ws
owes_stop o r ws e = record
    { answers = sym (ap (λ (l : Lent). l.reply) e); leaves = sym (ap (λ (l : Lent). l.words) e) }

-- a tap's bytes that are read
module _ (ws bytes : List ℕ) (a : tapping.TapRequest) (e : lawful ws ≡ true)
    (read : Ok (tap_says a) ≡ read_as (tap_kind (book_of ws).screens) bytes) where
  tap-told : T (readable (tap_kind (book_of ws).screens) bytes)
      × (tap_says a ≡ (tap_kind (book_of ws).screens).said (line_of (tap_kind (book_of ws).screens) bytes))
  tap-told = told (tap_kind (book_of ws).screens) bytes (tap_says a) read

  tap_is : (a.tap ≡ tap_at 1 (line_of (tap_kind (book_of ws).screens) bytes))
      × (a.label ≡ parts_at 6 (line_of (tap_kind (book_of ws).screens) bytes))
  unfolding tap_kind
  tap_is = let q = tap-told.1 in (cc, cc)

  pub tap-fits : T (tap_fits a.tap) × T (stamp_fits (book_of ws).screens (list_of a.label))
  unfolding readable tap_kind
  tap-fits =
      let line = line_of (tap_kind (book_of ws).screens) bytes in
      let kept : T (tap_fits (tap_at 1 line) && stamp_fits (book_of ws).screens (stamp_at 6 line)) = and_r
      (shaped 3 bytes)
      (tap_fits (tap_at 1 line) && stamp_fits (book_of ws).screens (stamp_at 6 line)) tap-told.0 in (
        subst (λ (x : Tap). T (tap_fits x)) (sym tap_is.0)
            (and_l (tap_fits (tap_at 1 line)) (stamp_fits (book_of ws).screens (stamp_at 6 line)) kept),
        subst (λ (x : Parts). T (stamp_fits (book_of ws).screens (list_of x))) (sym tap_is.1)
            (and_r (tap_fits (tap_at 1 line)) (stamp_fits (book_of ws).screens (stamp_at 6 line)) kept),
      )

  -- what stops the tap on the book stops it on the words
  pub tap-stopped-on : (r : TapStop) → StopsTap (book_of ws) a r → TapStopOn ws bytes r
  unfolding tap_stop
  tap-stopped-on r q = go r q
    where
      line : List ℕ
      line = line_of (tap_kind (book_of ws).screens) bytes

      stops : tap_stop ws bytes ≡ first_of (tap_stops (book_of ws) a.tap (list_of a.label))
      stops =
          stop-read ws e (readable (tap_kind (book_of ws).screens) bytes) tap-told.0
          (first_of (tap_stops (book_of ws) (tap_at 1 line) (stamp_at 6 line)))
          ∙ ap₂ (λ (x : Tap) (y : Parts). first_of (tap_stops (book_of ws) x (list_of y))) (sym tap_is.0)
          (sym tap_is.1)

      go : (r : TapStop) → StopsTap (book_of ws) a r → TapStopOn ws bytes r
      go (Err x) q = stops ∙ q
      go (Ok t) q = (
        stops ∙ q.0,
        ap (λ (x : tapping.TapRequest). x.tap) q.1 ∙ tap_is.0,
        ap (λ (x : tapping.TapRequest). x.label) q.1 ∙ tap_is.1,
      )

-- a tap that nothing stops
module _ (ws bytes : List ℕ) (a : tapping.TapRequest) (c : TapStopOn ws bytes (Ok a)) where
  abbrev tap-line : List ℕ
  tap-line = line_of (tap_kind (book_of ws).screens) bytes

  tap_clears :
      (lawful ws ≡ true) × (readable (tap_kind (book_of ws).screens) bytes ≡ true)
      × (first_of (tap_stops (book_of ws) (tap_at 1 tap-line) (stamp_at 6 tap-line)) ≡ none)
  unfolding tap_stop
  tap_clears = all-clear ws (readable (tap_kind (book_of ws).screens) bytes)
      (first_of (tap_stops (book_of ws) (tap_at 1 tap-line) (stamp_at 6 tap-line))) c.0

  pub tap_may : T (lawful ws) × (first_of (tap_stops (book_of ws) a.tap (list_of a.label)) ≡ none)
  tap_may = (
    subst T (sym tap_clears.0) tt,
    ap₂ (λ (x : Tap) (y : Parts). first_of (tap_stops (book_of ws) x (list_of y))) c.1 c.2 ∙ tap_clears.2,
  )

  pub tap-owes : (r : answer.Reply) (w : List ℕ) → Promise (lent_of (tap_step (book_of ws) a.tap (list_of a.label))) r w
      → Promise (tap_on ws bytes) r w
  unfolding tap_on
  tap-owes r w p =
      owes-step ws tap_clears.0 (readable (tap_kind (book_of ws).screens) bytes) tap_clears.1
      (tap_step (book_of ws) (tap_at 1 tap-line) (stamp_at 6 tap-line)) r w
      (subst (λ (x : Tap). Promise (lent_of (tap_step (book_of ws) x (stamp_at 6 tap-line))) r w) c.1
      (subst (λ (x : Parts). Promise (lent_of (tap_step (book_of ws) a.tap (list_of x))) r w) c.2 p))

-- a question's bytes that are read
module _ (ws bytes : List ℕ) (a : asking.Question) (e : lawful ws ≡ true)
    (read : Ok (question_says a) ≡ read_as (question_kind (book_of ws).screens) bytes) where
  question-told : T (readable (question_kind (book_of ws).screens) bytes)
      × (question_says a ≡ (question_kind (book_of ws).screens).said
      (line_of (question_kind (book_of ws).screens) bytes))
  question-told = told (question_kind (book_of ws).screens) bytes (question_says a) read

  question_is : (a.prompt ≡ get_or (line_of (question_kind (book_of ws).screens) bytes) 1 0)
      × (a.label ≡ parts_at 2 (line_of (question_kind (book_of ws).screens) bytes))
  unfolding question_kind
  question_is = let q = question-told.1 in (cc, cc)

  pub question-fits : (a.prompt < prompt_count) × T (stamp_fits (book_of ws).screens (list_of a.label))
  unfolding readable question_kind
  question-fits =
      let line = line_of (question_kind (book_of ws).screens) bytes in
      let kept : T (ltb (get_or line 1 0) prompt_count && stamp_fits (book_of ws).screens (stamp_at 2 line)) = and_r
      (shaped 4 bytes) (ltb (get_or line 1 0) prompt_count && stamp_fits (book_of ws).screens (stamp_at 2 line))
      question-told.0 in (
        subst (λ (x : ℕ). x < prompt_count) (sym question_is.0)
            (ltb→lt (get_or line 1 0) prompt_count
            (and_l (ltb (get_or line 1 0) prompt_count) (stamp_fits (book_of ws).screens (stamp_at 2 line)) kept)),
        subst (λ (x : Parts). T (stamp_fits (book_of ws).screens (list_of x))) (sym question_is.1)
            (and_r (ltb (get_or line 1 0) prompt_count) (stamp_fits (book_of ws).screens (stamp_at 2 line)) kept),
      )

  pub question-owes : (r : answer.Reply) → spoken r ≡ (ask (book_of ws) a.prompt (list_of a.label)).reply
      → Promise (question_on ws bytes) r ws
  unfolding question_on
  question-owes r spoken-as =
      let line = line_of (question_kind (book_of ws).screens) bytes in
      owes-step ws e (readable (question_kind (book_of ws).screens) bytes)
      (is_true (readable (question_kind (book_of ws).screens) bytes) question-told.0)
      (ask (book_of ws) (get_or line 1 0) (stamp_at 2 line)) r ws
      (subst (λ (x : ℕ). Promise (lent_of (ask (book_of ws) x (stamp_at 2 line))) r ws) question_is.0
      (subst (λ (x : Parts). Promise (lent_of (ask (book_of ws) a.prompt (list_of x))) r ws) question_is.1
      (record {
        answers = spoken-as;
        leaves = sym (lawful-held ws (subst T (sym e) tt)).words
            ∙ sym (ap words_of (ask-keeps (book_of ws) a.prompt (list_of a.label)));
      })))

-- what send owes
pub send-owes_unsound : (ws out : List ℕ) → lawful ws ≡ false → Meets (send_on ws out) (Err Unsound) out
unfolding send_on
send-owes_unsound ws out e =
    subst (λ (o : Output). Meets o (Err Unsound) out)
    (ap (λ (c : Bool). cond c (put_front (message_bytes (send (book_of ws))) out) (refuse Unsound out)) (sym e))
    (record { answers = refl; leaves = refl })

pub send-owes : (ws out : List ℕ) → lawful ws ≡ true → (r : Written) (w : List ℕ)
    → Meets (put_front (message_bytes (send (book_of ws))) out) r w → Meets (send_on ws out) r w
unfolding send_on
send-owes ws out e r w m =
    subst (λ (o : Output). Meets o r w)
    (ap (λ (c : Bool). cond c (put_front (message_bytes (send (book_of ws))) out) (refuse Unsound out)) (sym e)) m

-- a gossip's bytes that are read
module _ (ws bytes : List ℕ) (a : gossiping.Head) (e : lawful ws ≡ true)
    (read : Ok (head_says a) ≡ read_gossip bytes) where
  gossip-line : T (well_formed bytes) × (head_line bytes ≡ 1 ∷ a.sender ∷ a.screens ∷ a.count ∷ list_of a.stamp)
  gossip-line = let t = gossip-told bytes (head_says a) read in
      (t.0, head_in bytes a.sender a.screens a.count a.stamp t.1)

  pub gossip-heard : Hears bytes a
  unfolding parts_at list_of
  gossip-heard =
      let h = gossip-line.1 in
      record {
        head = record {
          formed = gossip-line.0;
          screens = ap (λ (l : List ℕ). get_or l 2 0) h;
          stamp = ap (λ (l : List ℕ). stamp_at 4 l) h;
        };
        from = ap (λ (l : List ℕ). get_or l 1 0) h;
        number = ap (λ (l : List ℕ). get_or l 3 0) h;
      }

  -- what stops the gossip on the book stops it on the words
  pub gossip-stopped-on : (r : GossipStop) → StopsGossip (book_of ws) (message_of bytes) a r → GossipStopOn ws bytes r
  unfolding gossip_stop
  gossip-stopped-on r q = go r q
    where
      stops : gossip_stop ws bytes ≡ first_of (gossip_stops (book_of ws) (message_of bytes))
      stops = stop-read ws e (well_formed bytes) gossip-line.0 (first_of (gossip_stops (book_of ws) (message_of bytes)))

      go : (r : GossipStop) → StopsGossip (book_of ws) (message_of bytes) a r → GossipStopOn ws bytes r
      go (Err x) q = stops ∙ q
      go (Ok i) q = (stops ∙ q.0, subst (Hears bytes) (sym q.1) gossip-heard, q.2)

-- a gossip that nothing stops
module _ (ws bytes : List ℕ) (c : gossip_stop ws bytes ≡ none) where
  gossip_clears : (lawful ws ≡ true) × (well_formed bytes ≡ true)
      × (first_of (gossip_stops (book_of ws) (message_of bytes)) ≡ none)
  unfolding gossip_stop
  gossip_clears = all-clear ws (well_formed bytes) (first_of (gossip_stops (book_of ws) (message_of bytes))) c

  pub gossip_may : T (lawful ws) × (first_of (gossip_stops (book_of ws) (message_of bytes)) ≡ none)
  gossip_may = (subst T (sym gossip_clears.0) tt, gossip_clears.2)

  pub gossip-owes : (r : answer.Reply) (w : List ℕ)
      → Promise (lent_of (gossip_step (book_of ws) (message_of bytes))) r w
      → Promise (gossip_on ws bytes) r w
  unfolding gossip_on
  gossip-owes r w p = owes-step ws gossip_clears.0 (well_formed bytes) gossip_clears.1
      (gossip_step (book_of ws) (message_of bytes)) r w p
