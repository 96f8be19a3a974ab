-- The third demand: what holds at every moment of every run of a house, a field for each sentence. Assumes nothing.
use Rattle.std.specs.Prelude.{ℕ, suc, ◌<◌, ◌≡◌, Bool, not, true, ◌&&◌, false, T, eqb, length}
use mathlib.Core.List.{List, [], ◌∷◌, Memᴰ}
use Rattle.lists.specs.Tests.{keep}
use Rattle.limits.specs.Limits.{prompt_count}
use Rattle.stamp.specs.Stamp.{Stamp, at_most, zeros}
use Rattle.tally.specs.Body.{taps_in}
use Rattle.tally.specs.Standing.{distinct, standing}
use Rattle.tally.specs.declared.Tap.{Tap}
use Rattle.ledger.specs.Log.{merge_all}
use Rattle.ledger.specs.Message.{Message}
use Rattle.ledger.specs.Record.{Record, is_known, is_applied, is_waiting, stamp_of}
use Rattle.meaning.specs.Book.{known, ready, standing_at, sound}
use Rattle.meaning.specs.Reply.{Reply, gossiped, refusal, is_answered}
use Rattle.meaning.specs.Step.{taps_of, gossip_step, ask}
use Rattle.house.specs.House.{House, Step, Later}

unfoldable pub is_unknown : Stamp → Record → Bool
is_unknown s r = not (is_known s r)

-- exactly one of three holds
abbrev pub exactly_one : Bool → Bool → Bool → Bool
exactly_one true b c = not b && not c
exactly_one false true c = not c
exactly_one false false c = c

-- the history's records that are applied under a ready stamp, and their distinct taps
unfoldable pub applied_of : Stamp → List Record → List Record
applied_of y history = keep (is_applied y) history

unfoldable pub applied_taps : Stamp → List Record → List Tap
applied_taps y history = distinct (taps_of (applied_of y history))

-- how gossip sent in the house is answered: taken, or refused as old, spent, for want of room, or as returned to its
-- sender
pub data HeardAs (i : ℕ) (m : Message) : Reply → Type 0 where
  is-taken : {new applied : ℕ} → HeardAs i m (gossiped new applied)
  is-old : HeardAs i m (refusal 4)
  is_spent : HeardAs i m (refusal 7)
  no_room : HeardAs i m (refusal 9)
  is_returned : m.sender ≡ i → HeardAs i m (refusal 2)

-- each record's number is one more than the records that its origin took before
abbrev pub right_numbers : List Record → Bool
right_numbers [] = true
right_numbers (r ∷ rs) = eqb r.number (suc (length (keep (λ x. eqb x.origin r.origin) rs))) && right_numbers rs

pub record Demand (n : ℕ) (h : House) : Type 0 where
  -- on every screen, each taken record is unknown, waiting or applied, exactly one of these
  pub one_of_three :
      (i : ℕ) → i < n → (r : Record) → Memᴰ r h.history
      → T (exactly_one (is_unknown (known (h.book i)) r) (is_waiting (known (h.book i)) (ready (h.book i)) r)
      (is_applied (ready (h.book i)) r))
  -- every log holds only taken records, unaltered ..
  pub only-taken : (i : ℕ) → i < n → (r : Record) → Memᴰ r (h.book i).log → Memᴰ r h.history
  -- .. and all of them that wait on its screen
  pub all-waiting :
      (i : ℕ) → i < n → (r : Record) → Memᴰ r h.history
      → T (is_waiting (known (h.book i)) (ready (h.book i)) r) → Memᴰ r (h.book i).log
  -- every prompt's counts equal those worked out afresh from the history's distinct applied taps
  pub fresh-counts :
      (i : ℕ) → i < n → (p : ℕ) → p < prompt_count
      → standing_at (h.book i) p ≡ standing (applied_taps (ready (h.book i)) h.history) p
  -- any record whose stamp an applied record's label covers is applied too
  pub closed :
      (i : ℕ) → i < n → (r x : Record) → Memᴰ r h.history → Memᴰ x h.history
      → T (is_applied (ready (h.book i)) r) → T (at_most (stamp_of x) r.label) → T (is_applied (ready (h.book i)) x)
  -- no record leaves a log before every screen knows it: at any next step, every screen knew it before
  pub leaves-known :
      (h' : House) → Step n h h' → (i : ℕ) → i < n → (r : Record) → Memᴰ r (h.book i).log
      → ¬ Memᴰ r (h'.book i).log
      → (k : ℕ) → k < n → T (is_known (known (h.book k)) r)
  -- .. nor is one dropped on arrival: a taken record that a screen knows and its log does not hold, every screen knows
  pub outside-known :
      (i : ℕ) → i < n → (r : Record) → Memᴰ r h.history → T (is_known (known (h.book i)) r)
      → ¬ Memᴰ r (h.book i).log
      → (k : ℕ) → k < n → T (is_known (known (h.book k)) r)
  -- every book stays sound
  pub books-sound : (i : ℕ) → i < n → T (sound (h.book i))
  -- gossip sent in the house is refused only as old, spent, for want of room, or as returned to its sender
  pub refused-only : (i : ℕ) → i < n → (m : Message) → Memᴰ m h.sent
      → HeardAs i m (gossip_step (h.book i) m).reply
  -- beside the demand: the history's records are numbered 1, 2, 3 .. at each origin
  pub numbered : T (right_numbers h.history)
  -- beside the demand: no screen takes the same tap twice
  pub taken_once :
      (r x : Record) → Memᴰ r h.history → Memᴰ x h.history → r.origin ≡ x.origin
      → (t : Tap) → Memᴰ t (taps_in r.body) → Memᴰ t (taps_in x.body) → r ≡ x
  -- beside the demand: the counted taps are the distinct taps of applied records
  pub counted-distinct : (i : ℕ) → i < n → (h.book i).counted ≡ applied_taps (ready (h.book i)) h.history
  -- beside the demand: the value stamp is the merge of the stamps of all applied records, zero if none
  pub value-merged :
      (i : ℕ) → i < n → (h.book i).value ≡ merge_all (applied_of (ready (h.book i)) h.history) zeros
  -- beside the demand: a question once answered at a label is answered at it ever after, on any prompt: never again
  -- Wait
  pub answered-after :
      (h' : House) → Later n h h' → (i : ℕ) → i < n → (p q : ℕ) (l : Stamp)
      → T (is_answered (ask (h.book i) p l).reply) → q < prompt_count
      → T (is_answered (ask (h'.book i) q l).reply)
