-- No refused consent goes live: what Permission's yes rules out at every moment of every run of a house. Assumes
-- nothing.
use Rattle.std.specs.Prelude.{ℕ, ◌<◌, ◌≡◌, Bool, not, T, eqb}
use mathlib.Core.List.{List, Memᴰ, ◌∷◌, []}
use Rattle.lists.specs.Tests.{all}
use Rattle.limits.specs.Limits.{decline, accept}
use Rattle.stamp.specs.Stamp.{Stamp, at_most}
use Rattle.tally.specs.Body.{taps_in}
use Rattle.tally.specs.Standing.{highest, of_prompt, contested, verdict_of}
use Rattle.tally.specs.declared.Tap.{Tap}
use Rattle.ledger.specs.Record.{Record, is_applied, stamp_of}
use Rattle.meaning.specs.Book.{ready, standing_at}
use Rattle.meaning.specs.Reply.{Reply, permits, showing_of}
use Rattle.meaning.specs.Step.{ask}
use Rattle.house.specs.Demand.{applied_taps}
use Rattle.house.specs.House.{House}

-- what screen i answers to a question on prompt p at label l
abbrev pub answer_at : House → ℕ → ℕ → Stamp → Reply
answer_at h i p l = (ask (h.book i) p l).reply

-- the tap was taken, and its record is applied on screen i
pub record Applied (h : House) (i : ℕ) (t : Tap) : Type 0 where
  pub from : Record
  pub taken : Memᴰ from h.history
  pub applied : T (is_applied (ready (h.book i)) from)
  pub says : Memᴰ t (taps_in from.body)

-- the tap is of the highest showing of its prompt among the taps applied on screen i
unfoldable pub is_latest : House → ℕ → Tap → Bool
is_latest h i t = eqb t.showing (highest (of_prompt t.prompt (applied_taps (ready (h.book i)) h.history)))

-- a double tap: one front end and one serial, two answers
abbrev pub double_rules : Tap → Tap → List Bool
double_rules t u =
    eqb t.front u.front
    ∷ eqb t.serial u.serial
    ∷ eqb t.prompt u.prompt
    ∷ not (eqb t.answer u.answer)
    ∷ []

unfoldable pub is_double : Tap → Tap → Bool
is_double t u = all (double_rules t u)

pub record Consent (n : ℕ) (h : House) : Type 0 where
  -- Permission says yes on a screen for a prompt, at any label, a label of zeros too. Then every decline of that prompt
  -- applied on that screen, whoever tapped it, is of a showing below the answered one.
  pub applied-below :
      (i : ℕ) → i < n → (p : ℕ) (l : Stamp) → T (permits (answer_at h i p l))
      → (t : Tap) → Applied h i t → t.prompt ≡ p → t.answer ≡ decline → t.showing < showing_of (answer_at h i p l)
  -- So is every taken decline of that prompt whose stamp the label covers: it is applied there.
  pub declines-below :
      (i : ℕ) → i < n → (p : ℕ) (l : Stamp) → T (permits (answer_at h i p l)) → (r : Record) → Memᴰ r h.history
      → T (at_most (stamp_of r) l)
      → (t : Tap) → Memᴰ t (taps_in r.body) → t.prompt ≡ p → t.answer ≡ decline
      → t.showing < showing_of (answer_at h i p l)
  -- And the yes was tapped: an accept of that prompt, of the answered showing, was taken and is applied on the screen.
  pub yes-was-tapped :
      (i : ℕ) → i < n → (p : ℕ) (l : Stamp) → T (permits (answer_at h i p l))
      → (t : Tap) × Applied h i t × (t.prompt ≡ p) × (t.answer ≡ accept) × (t.showing ≡ showing_of (answer_at h i p l))
  -- A double tap kept as accept and decline, both applied and of the highest showing: the verdict is Contested, and
  -- Permission is no at every label.
  pub double-contested :
      (i : ℕ) → i < n → (t u : Tap) → T (is_double t u) → Applied h i t → Applied h i u → T (is_latest h i t)
      → T (is_latest h i u)
      → (verdict_of (standing_at (h.book i) t.prompt) ≡ contested)
      × ((l : Stamp) → T (not (permits (answer_at h i t.prompt l))))
