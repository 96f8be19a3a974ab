-- Laws: a request that is stopped answers by its stop and changes neither book nor output, and one that is not is done.
-- Assumes nothing.
use Rattle.std.specs.Prelude.{ℕ, ◌≡◌, refl, Bool, true, false, not, cond, List, ◌++◌, eqb, ltb, length, drop, Ok, Err}
use Rattle.std.proofs.Common.{arith, sym, ap, ◌∙◌}
use Rattle.std.proofs.Math.Path.{Path, subst}
use Rattle.std.proofs.Math.Option.{Option, none, some, some-injective, some-ne-none, none-ne-some}
use Rattle.std.proofs.Math.Dec.{T}
use Rattle.lists.specs.TestLaws.{clash}
use Rattle.lists.specs.Tests.{first_of}
use Rattle.wire.specs.Kinds.{question_kind}
use Rattle.wire.specs.Read.{readable}
use Rattle.wire.specs.Write.{Output, refuse}
use Rattle.wire.specs.declared.Refusal.{Refusal}
use Rattle.wire.specs.declared.Refusal.TheVariants.{Unsound, Short}
use Rattle.message.specs.Message.{message_bytes}
use Rattle.meaning.proofs.AnswerLaws.{ask-keeps}
use Rattle.meaning.specs.Book.{fresh}
use Rattle.meaning.specs.Reply.{Reply, refusal, is_taken, is_gossiped}
use Rattle.meaning.specs.Step.{Outcome, stop_or, open_stops, ask, send}
use Rattle.lent.specs.SoundWords.{lawful-held}
use Rattle.lent.specs.Words.{book_long, book_of, words_of, lawful}
use Rattle.meaning.specs.Request.{Request, stops, outcome, step_by}
use Rattle.promise.specs.Lent.{Entry, of_tap, of_gossip, reads, request_in, on_book, entry_on, entry_stop}
use Rattle.promise.specs.Lent.{Lent, heard, stop_on, tap_stop, tap_on, prompt_in, label_in, question_on, gossip_stop}
use Rattle.promise.specs.Lent.{gossip_on, send_on, open_or, open_on}
use Rattle.promise.specs.LentLaws.{lent_of}

-- the words of a lawful slice are those of the book that it holds
held : (ws : List ℕ) → lawful ws ≡ true → words_of (book_of ws) ≡ ws
held ws e = (lawful-held ws (subst T (sym e) tt)).words

-- what a request comes to, by whether the slice is lawful, whether the bytes are readable, and what stops the step
module _ (ws : List ℕ) (done : Outcome) where
  abbrev comes : Bool → Bool → Option Reply → Lent
  comes l c stop = cond l (lent_of (heard c (book_of ws) (stop_or (book_of ws) done stop)))
      (record { reply = refusal 11; words = ws })

  kept :
      (x r : Reply) (w : List ℕ) → w ≡ ws → Path (Option Reply) (some x) (some r)
      → Path Lent (record { reply = x; words = w }) (record { reply = r; words = ws })
  kept x r w p q = let s : x ≡ r = some-injective x r q in λ j. record { reply = s j; words = p j }

  stopped :
      (l : Bool) → lawful ws ≡ l → (c : Bool) (stop : Option Reply) (r : Reply) → stop_on l c stop ≡ some r
      → comes l c stop ≡ record { reply = r; words = ws }
  stopped false e c stop r s = kept (refusal 11) r ws refl s
  stopped true e false stop r s = kept (refusal 1) r (words_of (book_of ws)) (held ws e) s
  stopped true e true none r s = absurd (none-ne-some r s)
  stopped true e true (some x) r s = kept x r (words_of (book_of ws)) (held ws e) s

  clear : (l c : Bool) (stop : Option Reply) → stop_on l c stop ≡ none → comes l c stop ≡ lent_of done
  clear false c stop s = absurd (some-ne-none (refusal 11) s)
  clear true false stop s = absurd (some-ne-none (refusal 1) s)
  clear true true none s = refl
  clear true true (some x) s = absurd (some-ne-none x s)

-- a request that is not done was stopped
not_done :
    (ws : List ℕ) (o : Lent) (done : Bool) (stop : Option Reply)
    → ((r : Reply) → stop ≡ some r → o ≡ record { reply = r; words = ws }) → (stop ≡ none → T done) → T (not done)
    → o.words ≡ ws
not_done ws o done (some r) s c n = ap (λ (x : Lent). x.words) (s r refl)
not_done ws o done none s c n = clash done (c refl) n

-- an entry
module _ (e : Entry) (ws bytes : List ℕ) where
  abbrev asks : Request
  asks = request_in e (book_of ws) bytes

  by-stops :
      entry_on e ws bytes
      ≡ comes ws (outcome (book_of ws) asks) (lawful ws) (reads e (book_of ws) bytes)
      (first_of (stops (book_of ws) asks))
  by-stops =
      ap (λ (o : Outcome). on_book ws (heard (reads e (book_of ws) bytes) (book_of ws) o)) (step_by (book_of ws) asks)

  -- what stops it is the answer, and no word changes
  entry-stopped : (r : Reply) → entry_stop e ws bytes ≡ some r → entry_on e ws bytes ≡ record { reply = r; words = ws }
  entry-stopped r s =
      by-stops
      ∙ stopped ws (outcome (book_of ws) asks) (lawful ws) refl (reads e (book_of ws) bytes)
      (first_of (stops (book_of ws) asks)) r s

  -- where nothing stops it, it is done
  entry-clear : entry_stop e ws bytes ≡ none → entry_on e ws bytes ≡ lent_of (outcome (book_of ws) asks)
  entry-clear s =
      by-stops
      ∙ clear ws (outcome (book_of ws) asks) (lawful ws) (reads e (book_of ws) bytes)
      (first_of (stops (book_of ws) asks)) s

-- Tap
module _ (ws bytes : List ℕ) where
  -- what stops a tap, Already too, is the answer, and no word changes
  pub tap-stopped : (r : Reply) → tap_stop ws bytes ≡ some r → tap_on ws bytes ≡ record { reply = r; words = ws }
  unfolding tap_stop tap_on
  tap-stopped = entry-stopped of_tap ws bytes

  -- a tap that nothing stops is taken
  pub tap-clear : tap_stop ws bytes ≡ none → T (is_taken (tap_on ws bytes).reply)
  unfolding tap_stop tap_on
  tap-clear s = subst (λ (o : Lent). T (is_taken o.reply)) (sym (entry-clear of_tap ws bytes s)) tt

  -- a tap that is not taken, refused or there already, changes no word
  pub tap-keeps : T (not (is_taken (tap_on ws bytes).reply)) → (tap_on ws bytes).words ≡ ws
  tap-keeps n = not_done ws (tap_on ws bytes) (is_taken (tap_on ws bytes).reply) (tap_stop ws bytes) tap-stopped
      tap-clear
      n

-- Gossip
module _ (ws bytes : List ℕ) where
  -- what stops gossip is the answer, and no word changes
  pub gossip-stopped : (r : Reply) → gossip_stop ws bytes ≡ some r → gossip_on ws bytes
      ≡ record { reply = r; words = ws }
  unfolding gossip_stop gossip_on
  gossip-stopped = entry-stopped of_gossip ws bytes

  -- gossip that nothing stops is taken
  pub gossip-clear : gossip_stop ws bytes ≡ none → T (is_gossiped (gossip_on ws bytes).reply)
  unfolding gossip_stop gossip_on
  gossip-clear s = subst (λ (o : Lent). T (is_gossiped o.reply)) (sym (entry-clear of_gossip ws bytes s)) tt

  -- gossip that is refused changes no word
  pub gossip-keeps : T (not (is_gossiped (gossip_on ws bytes).reply)) → (gossip_on ws bytes).words ≡ ws
  gossip-keeps n =
      not_done ws (gossip_on ws bytes) (is_gossiped (gossip_on ws bytes).reply) (gossip_stop ws bytes) gossip-stopped
      gossip-clear n

-- a question changes no word
pub question-keeps : (ws bytes : List ℕ) → (question_on ws bytes).words ≡ ws
unfolding question_on
question-keeps ws bytes = go (lawful ws) refl (readable (question_kind (book_of ws).screens) bytes)
  where
    asked : Outcome
    asked = ask (book_of ws) (prompt_in ws bytes) (label_in ws bytes)

    go :
        (l : Bool) → lawful ws ≡ l → (c : Bool)
        → (cond l (lent_of (heard c (book_of ws) asked)) (record { reply = refusal 11; words = ws })).words ≡ ws
    go false e c = refl
    go true e false = held ws e
    go true e true = ap words_of (ask-keeps (book_of ws) (prompt_in ws bytes) (label_in ws bytes)) ∙ held ws e

-- an open that is refused changes no word
pub open-keeps : (ws : List ℕ) (i n : ℕ) (r : Reply) → (open_on ws i n).refused ≡ some r → (open_on ws i n).words ≡ ws
unfolding open_on
open-keeps ws i n r e = go (first_of (open_stops (eqb (length ws) book_long) i n)) e
  where
    go :
        (stop : Option Reply) → (open_or ws (words_of (fresh i n)) stop).refused ≡ some r
        → (open_or ws (words_of (fresh i n)) stop).words ≡ ws
    go (some x) e = refl
    go none e = absurd (none-ne-some r e)

-- a send that is refused changes no byte of the output; the book is only read
pub send-keeps : (ws out : List ℕ) (k : Refusal) → (send_on ws out).answer ≡ Err k → (send_on ws out).bytes ≡ out
unfolding send_on
send-keeps ws out k e = go (lawful ws) (ltb (length out) (length message)) e
  where
    message : List ℕ
    message = message_bytes (send (book_of ws))

    wrote : Output
    wrote = record { answer = Ok (length message); bytes = message ++ drop (length message) out }

    go :
        (l short : Bool) → (cond l (cond short (refuse Short out) wrote) (refuse Unsound out)).answer ≡ Err k
        → (cond l (cond short (refuse Short out) wrote) (refuse Unsound out)).bytes ≡ out
    go false short e = refl
    go true true e = refl
    go true false e = let z : ◌≡◌ {A = ℕ} 0 1 = cc in absurd (omega arith)
