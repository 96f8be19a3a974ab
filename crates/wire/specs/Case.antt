-- Document 01's whole case: the bytes of its six messages, in order. Assumes nothing.
use Rattle.std.specs.Prelude.{ℕ, ◌≡◌, refl, List, [], ◌∷◌, ◌++◌, T, replicate}
use Rattle.limits.specs.Limits.{word, front_ends, serials, prompt_count, showings, accept, decline, fewest, most}
use Rattle.limits.specs.Limits.{log_room}
use Rattle.stamp.specs.declared.Parts.{Parts}
use Rattle.stamp.specs.Parts.{parts_at, list_of}
use Rattle.stamp.specs.Stamp.{stamp_fits}
use Rattle.tally.specs.declared.Tap.{Tap}
use Rattle.tally.specs.Body.{body_of, body_fits}
use Rattle.tally.specs.Tap.{tap_fits}
use Rattle.ledger.specs.Message.{in_range}
use Rattle.ledger.specs.Record.{record_fits, is_known, knows}
use Rattle.numbers.specs.Number.{bytes_of}
use Rattle.wire.specs.Says.{Said}
use Rattle.wire.specs.Says as said
use Rattle.wire.specs.Said.{figures}
use Rattle.wire.specs.Kinds.{Kind, head_kind, record_kind, tap_kind, taken_kind, open_kind, send_kind}
use Rattle.wire.specs.Write.{writable, written}

-- the stamp that begins with a and is zero after it
abbrev pub stamp_from : ℕ → Parts
stamp_from a = parts_at 0 (a ∷ [])

abbrev pub tapped : Tap
tapped = record { front = 5; serial = 1; prompt = 7; showing = 1; answer = 1 }

-- bytes, and then so many zeros
abbrev pub then : List ℕ → ℕ → List ℕ
then bytes n = bytes ++ replicate n 0

-- a value is taken by the writer of its kind, and these are its bytes
abbrev pub Writes : Kind → Said → List ℕ → Type 0
Writes k v bytes = T (writable k (figures v)) × (written k (figures v) ≡ bytes)

pub record WholeCase : Type 0 where
  pub opens : Writes open_kind (said.Open 0 2) (11 ∷ 0 ∷ 2 ∷ [])
  pub taps : Writes (tap_kind 2) (said.Tap tapped (stamp_from 0)) (then (3 ∷ 5 ∷ 0 ∷ 0 ∷ 0 ∷ 1 ∷ 7 ∷ 0 ∷ 1 ∷ 1 ∷ []) 32)
  pub sends : Writes send_kind said.Send (12 ∷ [])
  pub taken : Writes taken_kind (said.Taken (stamp_from 1)) (then (5 ∷ 0 ∷ 0 ∷ 0 ∷ 1 ∷ []) 28)
  pub heads : Writes head_kind (said.Head 0 2 1 (stamp_from 1)) (then (1 ∷ 0 ∷ 2 ∷ 0 ∷ 1 ∷ 0 ∷ 0 ∷ 0 ∷ 1 ∷ []) 28)
  pub records :
      Writes (record_kind 2 (list_of (stamp_from 1))) (said.Record 0 1 (stamp_from 0) tapped)
      (then (2 ∷ 0 ∷ 0 ∷ 0 ∷ 0 ∷ 1 ∷ []) 32 ++ (5 ∷ 0 ∷ 0 ∷ 0 ∷ 1 ∷ 7 ∷ 0 ∷ 1 ∷ 1 ∷ []))

pub whole_case : WholeCase
unfolding writable written open_kind tap_kind send_kind taken_kind head_kind record_kind parts_at list_of bytes_of
    stamp_fits word
    tap_fits front_ends serials prompt_count showings accept decline body_of body_fits in_range fewest most log_room
    record_fits
    is_known knows
whole_case =
    record {
      opens = (tt, refl);
      taps = (tt, refl);
      sends = (tt, refl);
      taken = (tt, refl);
      heads = (tt, refl);
      records = (tt, refl);
    }
