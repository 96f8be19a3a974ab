-- What stops a gossip on a sound book: a refusal by the stamp, one by the records, or nothing. Assumes nothing.
use Prim.Native.Nat.{ℕ, suc, ◌+◌, ◌≤◌, ◌<◌}
use native.Mathlib.Omega.{arith}
use mathlib.Core.Path.{◌≡◌, refl, sym, ap₂, ◌∙◌}
use mathlib.Core.Logic.{◌≢◌}
use mathlib.Core.Bool.{Bool, true, false}
use mathlib.Core.List.{List}
use mathlib.Core.Option.{none, some}
use Rattle.std.specs.Prelude.{Ok, Err, cond}
use borrow.Author.Tests.{lt-ltb, le-ltb}
use lib.Dec.{T}
use lib.ListN.{length}
use Rattle.lists.specs.Tests.{first_of}
use Rattle.limits.specs.LimitLaws.{most-parts}
use Rattle.limits.specs.Limits.{log_room}
use Rattle.stamp.specs.Stamp.{Stamp}
use Rattle.ledger.specs.Log.{unknowns, gapless}
use Rattle.ledger.specs.Record.{Record}
use Rattle.book_log.specs.Region.{stamp_long}
use Rattle.book_log.specs.Held.{holds_all}
use Rattle.book_log.proofs.HeldLaws.{gapless-climb}
use Rattle.message.specs.Message.{records_in, message_of}
use Rattle.meaning.specs.Book.{known, sound}
use Rattle.meaning.specs.BookLaws.{at-sound}
use Rattle.meaning.specs.Reply.{refusal}
use Rattle.meaning.specs.Step.{new_ones, gossip_stops}
use Rattle.lent.specs.SoundWords.{lawful-sound, lawful-held}
use Rattle.lent.specs.Words.{book_of, lawful}
use Rattle.gossip_step.specs.Refusals.{stamp_refusal, record_refusal}
use Rattle.gossip_step.specs.RefusalLaws.{stamp-stops, records_stop, unstopped, same-house}
use Rattle.gossip_step.specs.Heard.{Heard}
use Rattle.gossip_step.proofs.Message.{sender_is, screens_is, stamp_is, message-fits, records_are}

-- what a look at the records says where all are known or there, and where one is not
pub told : (whole : Bool) (new k : ℕ) → cond whole (Ok new) (Err new) ≡ Ok k → (whole ≡ true) × (k ≡ new)
told true new k e = (refl, cc)
told false new k e = absurd (cc)

pub untold : (whole : Bool) (new k : ℕ) → cond whole (Ok new) (Err new) ≡ Err k → whole ≡ false
untold true new k e = absurd (cc)
untold false new k e = refl

module _ (ws bytes : List ℕ) (j n count : ℕ) (m : Stamp) (w : T (lawful ws)) (h : Heard bytes j n count m) where
  sound-now : T (sound (book_of ws))
  sound-now = at-sound (book_of ws) (lawful-sound ws w)

  by-message : stamp_refusal (book_of ws) (message_of bytes).sender (message_of bytes).screens (message_of bytes).stamp
      ≡ stamp_refusal (book_of ws) j n m
  by-message = rw (sender_is bytes j n count m h, screens_is bytes j n count m h, stamp_is bytes j n count m h)

  pub stamp-refused : (k : ℕ) → k ≡ stamp_refusal (book_of ws) j n m → k ≢ 0
      → first_of (gossip_stops (book_of ws) (message_of bytes)) ≡ some (refusal k)
  stamp-refused k e z = stamp-stops (book_of ws) (message_of bytes) sound-now (message-fits bytes j n count m h) k
      (by-message ∙ sym e) z

  module _ (past : stamp_refusal (book_of ws) j n m ≡ 0) where
    at_home : (n ≡ (book_of ws).screens) × (j ≢ (book_of ws).me)
    at_home = same-house (book_of ws) j n m past

    pub house-few : n ≤ stamp_long
    house-few = omega (arith, at_home.0, (lawful-held ws w).shape.screens-few, most-parts)

    records-refused : (k : ℕ) → record_refusal (book_of ws) (message_of bytes) ≡ suc k
        → first_of (gossip_stops (book_of ws) (message_of bytes)) ≡ some (refusal (suc k))
    records-refused k e = records_stop (book_of ws) (message_of bytes) sound-now (message-fits bytes j n count m h)
        (by-message ∙ past) k e

    -- the records looked at under the known stamp
    module _ (before : Stamp) (q : before ≡ known (book_of ws)) (whole : Bool)
        (g : whole ≡ holds_all n before m (records_in bytes)) where
      whole_is : gapless (book_of ws).screens (known (book_of ws)) (message_of bytes) ≡ whole
      whole_is =
          gapless-climb (book_of ws).screens (known (book_of ws)) (message_of bytes)
          ∙ ap₂ (λ (x : Stamp) (rs : List Record). holds_all (book_of ws).screens (known (book_of ws)) x rs)
          (stamp_is bytes j n count m h) (records_are bytes)
          ∙ ap₂ (λ (k : ℕ) (x : Stamp). holds_all k x m (records_in bytes)) (sym at_home.0) (sym q)
          ∙ sym g

      pub gap-refused : whole ≡ false → first_of (gossip_stops (book_of ws) (message_of bytes)) ≡ some (refusal 8)
      unfolding record_refusal
      gap-refused f = records-refused 7 (rw (whole_is ∙ f))

      module _ (f : whole ≡ true) (new : ℕ) (u : new ≡ length (unknowns before (records_in bytes))) where
        pub new_is : new ≡ length (new_ones (book_of ws) (message_of bytes))
        unfolding new_ones
        new_is = u ∙ ap₂ (λ (s : Stamp) (rs : List Record). length (unknowns s rs)) q (sym (records_are bytes))

        module _ (k : ℕ) (e : k ≡ length (book_of ws).log) where
          many : k + new ≡ length (book_of ws).log + length (new_ones (book_of ws) (message_of bytes))
          many = ap₂ ◌+◌ e new_is

          pub room-refused : log_room < k + new → first_of (gossip_stops (book_of ws) (message_of bytes))
              ≡ some (refusal 9)
          unfolding record_refusal
          room-refused r = records-refused 8
              (rw (
                whole_is ∙ f,
                lt-ltb log_room
                    (length (book_of ws).log + length (new_ones (book_of ws) (message_of bytes)))
                    (omega (arith, many, r)),
              ))

          nothing : k + new ≤ log_room → record_refusal (book_of ws) (message_of bytes) ≡ 0
          unfolding record_refusal
          nothing r = rw (
            whole_is
                ∙ f,
            le-ltb log_room (length (book_of ws).log + length (new_ones (book_of ws) (message_of bytes)))
                (omega (arith, many, r)),
          )

          pub unrefused : k + new ≤ log_room → first_of (gossip_stops (book_of ws) (message_of bytes)) ≡ none
          unrefused r = unstopped (book_of ws) (message_of bytes) sound-now (message-fits bytes j n count m h)
              (by-message ∙ past) (nothing r)
