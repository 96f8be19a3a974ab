-- Laws: what each turn owes, of what the functions that it calls promise. Assumes nothing.
use Prim.Native.Nat.{ℕ, ◌≤◌}
use native.Mathlib.Omega.{arith}
use mathlib.Core.Path.{◌≡◌, refl, sym, ap, subst, ◌∙◌}
use mathlib.Core.Bool.{Bool, true, false, cond, ◌&&◌}
use mathlib.Core.List.{List, ◌++◌}
use mathlib.Core.Option.{Option, none, some}
use borrow.Author.Tests.{le-ltb}
use lib.Dec.{eqb}
use lib.ListN.{length, drop}
use Rattle.wire.specs.Kinds.{longest}
use Rattle.wire.specs.Write.{Written, Output, Meets, refuse}
use Rattle.std.specs.Prelude.{Ok, Err}
use Rattle.wire.specs.Refusal.{table_number}
use Rattle.wire.specs.declared.Refusal.{Refusal}
use Rattle.wire.specs.declared.Refusal.TheVariants.{Short}
use Rattle.meaning.specs.Reply.{Reply, refusal}
use Rattle.open_step.specs.Opening.{Opening, Opens, spoken_opening}
use Rattle.frames.specs.Next.{next_of}
use Rattle.frames.specs.declared.Frame.{Frame}
use Rattle.answer.specs.Speech.{refusal_bytes, say_on}
use Rattle.answer.specs.SpeechLaws.{says-put, reply-long, refusal-says}
use Rattle.answer.specs.Answer.{done_on, answer_on, Answers, open_from}
use Rattle.answer.specs.AnswerLaws.{front, within, room_most}
use Rattle.program.specs.Said.{bad}
use Rattle.program.specs.Turn.{Turned, last_turn, quiet_turn, more_turn, open_turn, message_turn, turn_by, turn_on}
use Rattle.program.specs.Turn.{Turns}
use Rattle.program.specs.declared.Turn.{Turn}
use Rattle.program.specs.declared.Turn.TheVariants.{Read, Say, Last, Stop}

-- a refusal has two bytes, which the output has
module _ (r : Refusal) (out : List ℕ) (w : Written) (bytes : List ℕ) (room : longest ≤ length out)
    (m : Meets (say_on (refusal (table_number r)) out) w bytes) where
  abbrev said : List ℕ
  said = refusal_bytes r

  abbrev fronted : Output
  fronted = record { answer = Ok (length said); bytes = said ++ drop (length said) out }

  stands : say_on (refusal (table_number r)) out ≡ fronted
  stands =
      says-put (refusal (table_number r)) out (refusal-says r)
      ∙ ap (λ (c : Bool). cond c (refuse Short out) fronted)
      (le-ltb (length out) (length said) (omega (arith, reply-long (refusal (table_number r)) (refusal-says r))))

  wrote : w ≡ Ok (length said)
  wrote = m.answers ∙ ap (λ (o : Output). o.answer) stands

  pub refusal-said : (n : ℕ) → w ≡ Ok n → (Last n ≡ Last (length said)) × (bytes ≡ said ++ drop (length said) out)
  refusal-said n e =
      let q = wrote in
      let same : n ≡ length said = cc in
      (ap Last same, m.leaves ∙ ap (λ (o : Output). o.bytes) stands)

  pub refusal_unsaid : (j : Refusal) → w ≡ Err j → ⊥
  refusal_unsaid j e = let q = wrote in let z : ◌≡◌ {A = ℕ} 0 1 = cc in omega arith

-- bytes that are said last
pub last-owes :
    (words says out : List ℕ) (r : Turn) (bytes : List ℕ) → r ≡ Last (length says)
    → bytes ≡ says ++ drop (length says) out
    → Turns (last_turn words says) r words out bytes
last-owes words says out r bytes e f = record { gives = e; leaves = refl; writes = f }

-- more is needed
module _ (words read : List ℕ) (ended opened : Bool) (n : ℕ) (out : List ℕ) where
  abbrev more_by : Bool → Bool → Turned
  more_by c d = cond c (cond d (quiet_turn Stop words) (last_turn words bad)) (quiet_turn (Read n) words)

  by_tests : (c d : Bool) → ended ≡ c → (opened && eqb (length read) 0) ≡ d → (r : Turn) (bytes : List ℕ)
      → Turns (more_by c d) r words out bytes
      → Turns (more_turn words read ended opened n) r words out bytes
  by_tests c d e f r bytes t =
      subst (λ (x : Bool). Turns (more_by x (opened && eqb (length read) 0)) r words out bytes) (sym e)
      (subst (λ (x : Bool). Turns (more_by c x) r words out bytes) (sym f) t)

  pub more-reads : ended ≡ false → Turns (more_turn words read ended opened n) (Read n) words out out
  more-reads e = by_tests false (opened && eqb (length read) 0) e refl (Read n) out
      (record { gives = refl; leaves = refl; writes = refl })

  pub more-stops : ended ≡ true → (opened && eqb (length read) 0) ≡ true
      → Turns (more_turn words read ended opened n) Stop words out out
  more-stops e f = by_tests true true e f Stop out (record { gives = refl; leaves = refl; writes = refl })

  pub more_breaks :
      ended ≡ true → (opened && eqb (length read) 0) ≡ false → (r : Turn) (bytes : List ℕ) → r ≡ Last (length bad)
      → bytes ≡ bad ++ drop (length bad) out → Turns (more_turn words read ended opened n) r words out bytes
  more_breaks e f r bytes p q = by_tests true false e f r bytes (last-owes words bad out r bytes p q)

-- kind 11
module _ (ws msg : List ℕ) (r : Opening) (words : List ℕ) (o : Opens (open_from ws msg) r words) (out : List ℕ)
  where
    refused_is : (x : Option Reply) → spoken_opening r ≡ x → (open_from ws msg).refused ≡ x
    refused_is x e = sym o.answers ∙ e

    abbrev turn_for : Option Reply → Turned
    turn_for x = open_turn (length msg) x (open_from ws msg).words

    turned : (x : Option Reply) → spoken_opening r ≡ x → (t : Turn) (bytes : List ℕ)
        → Turns (turn_for x) t words out bytes
        → Turns (message_turn ws msg false) t words out bytes
    turned x e t bytes q = subst (λ (y : Option Reply). Turns (turn_for y) t words out bytes) (sym (refused_is x e)) q

    pub opens_silent : r ≡ Ok tt → Turns (message_turn ws msg false) (Say (length msg) 0) words out out
    opens_silent q = turned none (ap spoken_opening q) (Say (length msg) 0) out
        (record { gives = refl; leaves = o.leaves; writes = refl })

    pub opens-refused :
        (k : Refusal) → r ≡ Err k → (t : Turn) (bytes : List ℕ) → t ≡ Last (length (refusal_bytes k))
        → bytes ≡ refusal_bytes k ++ drop (length (refusal_bytes k)) out
        → Turns (message_turn ws msg false) t words out bytes
    opens-refused k q t bytes e f =
        turned (some (refusal (table_number k))) (ap spoken_opening q) t bytes
        (record { gives = e; leaves = o.leaves; writes = f })

-- a whole message
module _ (ws msg out : List ℕ) (opened : Bool) where
  pub message-opens :
      opened ≡ false → (t : Turn) (words bytes : List ℕ) → Turns (message_turn ws msg false) t words out bytes
      → Turns (message_turn ws msg opened) t words out bytes
  message-opens e t words bytes q = subst (λ (c : Bool). Turns (message_turn ws msg c) t words out bytes) (sym e) q

  pub message-replies :
      opened ≡ true → longest ≤ length out → (long : ℕ) (words bytes : List ℕ)
      → Answers (answer_on ws msg out) long words bytes
      → Turns (message_turn ws msg opened) (Say (length msg) long) words out bytes
  message-replies e room long words bytes a =
      let f = front (done_on ws msg) ws out (omega (arith, (within ws msg).fits, room_most msg)) in
      subst (λ (c : Bool). Turns (message_turn ws msg c) (Say (length msg) long) words out bytes) (sym e)
      (record {
        gives = ap (Say (length msg)) (a.gives ∙ sym f.gives);
        leaves = a.leaves ∙ sym f.leaves;
        writes = a.writes ∙ sym f.writes;
      })

-- by what is read
pub turn-owes :
    (ws read : List ℕ) (ended opened : Bool) (out : List ℕ) (f : Frame) → f ≡ next_of read opened
    → (t : Turn) (words bytes : List ℕ)
    → Turns (turn_by f ws read ended opened) t words out bytes → Turns (turn_on ws read ended opened) t words out bytes
unfolding turn_on
turn-owes ws read ended opened out f e t words bytes q =
    subst (λ (x : Frame). Turns (turn_by x ws read ended opened) t words out bytes) e q
