-- The message that was heard: its values, and the field rules that it keeps. Assumes nothing.
use Prim.Native.Nat.{ℕ, ◌≤◌, ◌<◌}
use native.Mathlib.Omega.{arith}
use mathlib.Core.Path.{◌≡◌, refl, subst}
use mathlib.Core.List.{List}
use lib.Dec.{T}
use Rattle.limits.specs.Limits.{log_room}
use Rattle.stamp.specs.Laws.{Fits, fits_test}
use Rattle.stamp.specs.Stamp.{Stamp, stamp_fits}
use Rattle.tally.specs.Body.{body_fits}
use Rattle.ledger.specs.LimitLaws.{range-me}
use Rattle.ledger.specs.Message.{message_fits}
use Rattle.ledger.specs.Readable.{Readable}
use Rattle.ledger.proofs.MessageLaws.{readable}
use Rattle.message.specs.Message.{records_in, message_of}
use Rattle.message.proofs.MessageLaws.{length-records, well-fits}
use Rattle.gossip_step.specs.Heard.{Heard}

module _ (bytes : List ℕ) (j n count : ℕ) (m : Stamp) (h : Heard bytes j n count m) where
  pub sender_is : (message_of bytes).sender ≡ j
  unfolding message_of
  sender_is = h.from

  pub screens_is : (message_of bytes).screens ≡ n
  unfolding message_of
  screens_is = h.head.screens

  pub stamp_is : (message_of bytes).stamp ≡ m
  unfolding message_of
  stamp_is = h.head.stamp

  pub message-fits : T (message_fits body_fits (message_of bytes))
  message-fits = well-fits bytes h.head.formed

  rules : Readable body_fits (message_of bytes)
  rules = readable body_fits (message_of bytes) message-fits

  pub sender_in_lem : j < n
  sender_in_lem =
      omega (arith, range-me (message_of bytes).sender (message_of bytes).screens rules.range, sender_is, screens_is)

  pub stamp_in_lem : T (stamp_fits n m)
  stamp_in_lem =
      let fit = subst (λ (k : ℕ). Fits k (message_of bytes).stamp) screens_is rules.stamp-fits in
      subst (λ (x : Stamp). T (stamp_fits n x)) stamp_is (fits_test n (message_of bytes).stamp fit)

  pub count-few : count ≤ log_room
  unfolding message_of
  count-few = omega (arith, rules.few, length-records bytes, h.number)

pub records_are : (bytes : List ℕ) → (message_of bytes).records ≡ records_in bytes
unfolding message_of
records_are bytes = refl
