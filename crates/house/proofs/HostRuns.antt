-- A run of calls of `answer` is a run over lent slices and bytes, so all that is proved of those holds of it. Assumes
-- nothing.
use Prim.Native.Nat.{ℕ, ◌≤◌, ◌<◌}
use mathlib.Core.Path.{◌≡◌, refl, sym, ap, ap₂, subst, ◌∙◌}
use mathlib.Core.Logic.{◌⊎◌, inl, inr}
use mathlib.Core.Bool.{Bool, true, false, cond}
use mathlib.Core.List.{List, [], ◌∷◌, ◌++◌, map}
use borrow.Author.Tests.{le-ltb, ltb-false}
use lib.Dec.{T, eqb, ltb}
use lib.ListN.{length, get_or, take, drop}
use Rattle.lists.specs.TestLaws.{◌∈◌, either}
use Rattle.limits.specs.Limits.{fewest, most}
use Rattle.limits.specs.KindNumbers.{head_number, taken_number}
use Rattle.ledger.specs.Record.{Record}
use Rattle.wire.specs.Kinds.{send_kind}
use Rattle.wire.specs.Read.{readable}
use Rattle.wire.specs.Write.{Output, refuse}
use Rattle.std.specs.Prelude.{Ok}
use Rattle.wire.specs.declared.Refusal.TheVariants.{Unsound, Short}
use Rattle.message.specs.Message.{message_bytes, well_formed}
use Rattle.meaning.specs.Reply.{refusal, is_taken}
use Rattle.meaning.specs.Step.{send}
use Rattle.lent.specs.Words.{book_of, words_of, lawful}
use Rattle.lent.specs.SoundWords.{lawful-held}
use Rattle.promise.specs.Lent.{Entry, of_gossip, of_tap, of_question, Lent, entry_on, gossip_on, tap_on, question_on}
use Rattle.promise.specs.Lent.{put_front, send_on}
use Rattle.answer.specs.KindLaws.{first_of, first_no-head, first_head}
use Rattle.answer.specs.Speech.{bytes_for}
use Rattle.answer.specs.Answer.{Done, done_by, send_done, bad_on, kind_in, entry_line, entries, send_line, done_in}
use Rattle.answer.specs.Answer.{done_on}
use Rattle.answer.specs.Answer.{Answered, kind_said, answer_by}
use Rattle.answer.specs.AnswerLaws.{within, first_said}
use Rattle.house.specs.House.{put, grown, Step}
use Rattle.house.specs.HostHouse as host
use Rattle.house.specs.HostHouse.{made_in, after_call, Call, call, HostRun, HostDemand}
use Rattle.house.specs.LentHouse.{LentHouse, made_by, lent_request, lent_send, MayCome, LentStep, hears, sends}
use Rattle.house.specs.LentHouse.{LentRun, opened, onward, held, LentDemand}
use Rattle.house.proofs.Invariant.{put_back}
use Rattle.house.proofs.LentRuns.{lent-demand}

module _ (n : ℕ) (h : LentHouse) (i : ℕ) (u : i < n) (bytes out : List ℕ)
    (from : T (well_formed bytes) → bytes ∈ h.sent) where
  ws : List ℕ
  ws = h.words i

  -- the house after a call that left these words, said these bytes, was a send's or took what makes these records
  abbrev left : List Record → List ℕ → List ℕ → Bool → Bool → LentHouse
  left made words said sent taken =
      record {
        words = put h.words i words;
        sent = cond sent (said ∷ h.sent) h.sent;
        history = cond taken (made ++ h.history) h.history;
      }

  abbrev after : List Record → Answered → LentHouse
  after made a = left made a.words (take a.long a.bytes) (eqb (kind_said a) head_number)
      (eqb (kind_said a) taken_number)

  stays : (made : List Record) → left made ws [] false false ≡ h
  unfolding ws
  stays made = λ j. record { words = put_back h.words i j; sent = h.sent; history = h.history }

  -- what a call comes to where the output is long enough
  abbrev fronted : Done → Answered
  fronted d = record { long = length d.says; words = d.words; bytes = d.says ++ drop (length d.says) out }

  abbrev front : List ℕ → List ℕ
  front says = take (length says) (says ++ drop (length says) out)

  by_kind : (made : List Record) (d : Done) → 1 ≤ length d.says
      → after made (fronted d) ≡ left made d.words (front d.says) (eqb (get_or d.says 0 0) head_number)
      (eqb (get_or d.says 0 0) taken_number)
  by_kind made d s =
      ap (λ (k : ℕ). left made d.words (front d.says) (eqb k head_number) (eqb k taken_number))
      (first_said d.says (drop (length d.says) out) s)

  -- a reply leaves what the operation leaves, sends nothing, and says by its kind whether anything is taken
  by-reply : (made : List Record) (o : Lent) → 1 ≤ length (bytes_for o.reply)
      → after made (fronted (done_by o)) ≡ left made o.words [] false (is_taken o.reply)
  by-reply made o s =
      by_kind made (done_by o) s
      ∙ ap₂ (λ (x y : Bool). left made o.words (front (bytes_for o.reply)) x y) (first_no-head o.reply)
      (first_of taken_number o.reply)

  abbrev Goes : LentHouse → Type 0
  Goes h' = LentStep n h h' ⊎ (h ≡ h')

  -- what a message comes to that makes these records: a step, or the house as it was
  abbrev Steps : List Record → Done → Type 0
  Steps made d = 1 ≤ length d.says → length d.says ≤ length out → Goes (after made (fronted d))

  may_come : (e : Entry) → MayCome h e bytes
  may_come of_gossip = from
  may_come of_tap = tt
  may_come of_question = tt

  by_entry : (e : Entry) → Steps (made_by e ws bytes) (done_by (entry_on e ws bytes))
  unfolding ws lent_request grown
  by_entry e s l =
      subst Goes (sym (by-reply (made_by e ws bytes) (entry_on e ws bytes) s)) (inl (hears i u e bytes (may_come e)))

  by-entry-line : (e : Entry) → Steps (made_by e ws bytes) ((entry_line e).done ws bytes)
  unfolding gossip_on tap_on question_on
  by-entry-line of_gossip = by_entry of_gossip
  by-entry-line of_tap = by_entry of_tap
  by-entry-line of_question = by_entry of_question

  -- a refusal leaves the house as it was
  by-refusal : (k : ℕ) → 1 ≤ length (bytes_for (refusal k)) → (words : List ℕ) → words ≡ ws
      → Goes (after [] (fronted (done_by (record { reply = refusal k; words = words }))))
  by-refusal k s words e =
      let o : Lent = record { reply = refusal k; words = words } in
      inr (sym (by-reply [] o s ∙ ap (λ (w : List ℕ). left [] w [] false false) e ∙ stays []))

  by-bad : Steps [] (done_by (bad_on ws))
  by-bad = go (lawful ws) refl
    where
      bad : Bool → Lent
      bad c = cond c (record { reply = refusal 1; words = words_of (book_of ws) })
          (record { reply = refusal 11; words = ws })

      go : (c : Bool) → lawful ws ≡ c → Steps [] (done_by (bad c))
      go true e s l = by-refusal 1 s (words_of (book_of ws)) (lawful-held ws (subst T (sym e) tt)).words
      go false e s l = by-refusal 11 s ws refl

  -- a message that was sent stands at the output's front
  message : List ℕ
  message = message_bytes (send (book_of ws))

  abbrev as_sent : Output
  as_sent = record { answer = Ok (length message); bytes = message ++ drop (length message) out }

  sends_so : lawful ws ≡ true → length message ≤ length out → send_on ws out ≡ as_sent
  unfolding send_on message
  sends_so e l =
      ap (λ (c : Bool). cond c (put_front message out) (refuse Unsound out)) e
      ∙ ap (λ (c : Bool). cond c (refuse Short out) as_sent) (le-ltb (length out) (length message) l)

  by-sent : lawful ws ≡ true → length message ≤ length out
      → left [] ws (front message) true false ≡ lent_send h i out (length message)
  unfolding ws lent_send
  by-sent e l =
      let q : as_sent ≡ send_on ws out = sym (sends_so e l) in
      λ j. record {
        words = put_back h.words i j;
        sent = take (length message) (q j).bytes ∷ h.sent;
        history = h.history;
      }

  by-send : Steps [] (send_done ws)
  unfolding ws message
  by-send = go (lawful ws) refl
    where
      done : Bool → Done
      done c = record { says = cond c message (bytes_for (refusal 11)); words = ws }

      go : (c : Bool) → lawful ws ≡ c → Steps [] (done c)
      go true e s l =
          subst Goes (sym (by_kind [] (done true) s
          ∙ ap (λ (k : ℕ). left [] ws (front message) (eqb k head_number) (eqb k taken_number))
          (first_head (send (book_of ws))) ∙ by-sent e l))
          (inl (sends i u out (length message) (ap (λ (o : Output). o.answer) (sends_so e l))))
      go false e s l = by-refusal 11 s ws refl

  -- bytes of kind 12 are a send, or no request; bytes of a kind that no entry has are those or no request
  by-other : Steps [] (done_in (send_line ∷ []) ws bytes)
  by-other = go (eqb (kind_in bytes) send_line.number) (readable send_kind bytes)
    where
      go : (c d : Bool) → Steps [] (cond c (cond d (send_done ws) (done_by (bad_on ws))) (done_by (bad_on ws)))
      go true true = by-send
      go true false = by-bad
      go false d = by-bad

  -- the table of requests, entry by entry
  by_entries : (es : List Entry) → Steps (made_in es ws bytes) (done_in (map entry_line es ++ send_line ∷ []) ws bytes)
  by_entries [] = by-other
  by_entries (e ∷ es) = go (eqb (kind_in bytes) (entry_line e).number) (by_entries es)
    where
      rest : Done
      rest = done_in (map entry_line es ++ send_line ∷ []) ws bytes

      go : (c : Bool) → Steps (made_in es ws bytes) rest
          → Steps (cond c (made_by e ws bytes) (made_in es ws bytes)) (cond c ((entry_line e).done ws bytes) rest)
      go true later = by-entry-line e
      go false later = later

  by-done : length (done_on ws bytes).says ≤ length out
      → Goes (after (made_in entries ws bytes) (fronted (done_on ws bytes)))
  unfolding done_on
  by-done room = by_entries entries (within ws bytes).some room

  -- a call is a step over lent slices and bytes, or leaves the house as it was
  pub call_goes : Goes (after_call h i bytes out)
  unfolding ws after_call answer_by
  call_goes = go (ltb (length out) (length (done_on ws bytes).says)) refl
    where
      answer : Bool → Answered
      answer c = cond c (record { long = 0; words = ws; bytes = out }) (fronted (done_on ws bytes))

      go : (c : Bool) → ltb (length out) (length (done_on ws bytes).says) ≡ c
          → Goes (after (made_in entries ws bytes) (answer c))
      go true e = inr (sym (stays (made_in entries ws bytes)))
      go false e = by-done (ltb-false (length out) (length (done_on ws bytes).says) e)

module _ (n : ℕ) where
  -- a run of calls is a run over lent slices and bytes
  pub host_run : {h : LentHouse} → HostRun n h → LentRun n h
  host_run (host.opened lent f) = opened lent f
  host_run (host.onward r c) = next (host_run r) c
    where
      next : {h h' : LentHouse} → LentRun n h → Call n h h' → LentRun n h'
      next {h} r (call i u bytes out from) =
          either (call_goes n h i u bytes out from) (λ s. onward r s) (λ e. subst (LentRun n) e r)

  -- so at every moment of it the third demand holds, and no refused consent goes live
  pub host-demand : fewest ≤ n → n ≤ most → {h : LentHouse} → HostRun n h → HostDemand n h
  host-demand lo hi {h} r = record { lent = d; calls = calls }
    where
      d : LentDemand n h
      d = lent-demand n lo hi (host_run r)

      calls : (h' : LentHouse) → Call n h h' → Step n (held n h) (held n h') ⊎ (held n h ≡ held n h')
      calls h' (call i u bytes out from) =
          either (call_goes n h i u bytes out from) (λ s. d.steps (after_call h i bytes out) s)
          (λ e. inr (ap (held n) e))
