-- Laws: the refusals' number is what the stops of a gossip come to. Assumes nothing.
--     stamp-stops, records_stop   a number other than zero: the first stop is the refusal of that number
--     unstopped                   zero: nothing stops it
--     same-house                  past the refusals by the stamp the message is of this house, and from another screen
use Rattle.std.specs.Prelude.{ℕ, zero, suc, ◌+◌, ◌≡◌, refl, ◌≢◌, Bool, true, false, not, ◌&&◌, ◌||◌, cond, [], ◌∷◌, T}
use Rattle.std.specs.Prelude.{ltb}
use Rattle.std.proofs.Common.{arith, ap, ◌∙◌, eqb-true}
use Rattle.std.proofs.Math.Option.{Option, none, some}
use Rattle.std.proofs.lemmas.Bool.{eqb-false}
use Rattle.std.proofs.Math.Dec.{eqb}
use Rattle.std.proofs.Math.ListN.{length}
use Rattle.lists.specs.TestLaws.{is_true}
use Rattle.lists.specs.Tests.{first_of}
use Rattle.limits.specs.Limits.{log_room, book_room}
use Rattle.stamp.specs.Stamp.{Stamp, part, total, merge, at_most}
use Rattle.tally.specs.Body.{body_fits}
use Rattle.ledger.specs.Log.{gapless}
use Rattle.ledger.specs.Message.{Message, message_fits}
use Rattle.meaning.specs.Book.{Book, row, known, sound}
use Rattle.meaning.specs.Reply.{Reply, refusal}
use Rattle.meaning.specs.Step.{new_ones, gossip_stops}
use Rattle.gossip_step.specs.Refusals.{unless, row_refusal, own_refusal, stamp_refusal, record_refusal}

-- the refusal of a number, if there is one
abbrev refusal_of : ℕ → Option Reply
refusal_of zero = none
refusal_of (suc k) = some (refusal (suc k))

cascade :
    (t2 t4 c5 t6 t7 whole t9 : Bool)
    → first_of ((t2, refusal 2) ∷ (t4, refusal 4) ∷ (not c5 && not t4, refusal 5) ∷ (t6, refusal 6) ∷ (t7, refusal 7)
    ∷ (not whole, refusal 8) ∷ (t9, refusal 9) ∷ [])
    ≡ refusal_of (unless (cond t2 2 (unless (cond t4 4 (cond (not c5) 5 0)) (cond t6 6 (cond t7 7 0))))
    (cond (not whole) 8 (cond t9 9 0)))
cascade true t4 c5 t6 t7 whole t9 = refl
cascade false true c5 t6 t7 whole t9 = refl
cascade false false false t6 t7 whole t9 = refl
cascade false false true true t7 whole t9 = refl
cascade false false true false true whole t9 = refl
cascade false false true false false false t9 = refl
cascade false false true false false true true = refl
cascade false false true false false true false = refl

module _ (b : Book) (m : Message) (s : T (sound b)) (f : T (message_fits body_fits m)) where
  -- the refusals by the stamp, then those by the records
  abbrev first : ℕ
  first = stamp_refusal b m.sender m.screens m.stamp

  stops-number : first_of (gossip_stops b m) ≡ refusal_of (unless first (record_refusal b m))
  unfolding gossip_stops stamp_refusal row_refusal own_refusal record_refusal
  stops-number =
      rw (is_true (sound b) s, is_true (message_fits body_fits m) f)
      (cascade (not (eqb m.screens b.screens) || eqb m.sender b.me) (at_most m.stamp (row b m.sender))
      (at_most (row b m.sender) m.stamp)
      (ltb (part (known b) b.me) (part m.stamp b.me)) (ltb book_room (total (merge (known b) m.stamp)))
      (gapless b.screens (known b) m)
      (ltb log_room (length b.log + length (new_ones b m))))

  pub stamp-stops : (k : ℕ) → stamp_refusal b m.sender m.screens m.stamp ≡ k → k ≢ 0
      → first_of (gossip_stops b m) ≡ some (refusal k)
  stamp-stops zero e n = absurd (n refl)
  stamp-stops (suc k) e n = stops-number ∙ ap (λ (x : ℕ). refusal_of (unless x (record_refusal b m))) e

  module _ (z : stamp_refusal b m.sender m.screens m.stamp ≡ 0) where
    by-records : (k : ℕ) → record_refusal b m ≡ k → first_of (gossip_stops b m) ≡ refusal_of k
    by-records k e = stops-number ∙ ap (λ (x : ℕ). refusal_of (unless x (record_refusal b m))) z ∙ ap refusal_of e

    pub records_stop : (k : ℕ) → record_refusal b m ≡ suc k → first_of (gossip_stops b m) ≡ some (refusal (suc k))
    records_stop k e = by-records (suc k) e

    pub unstopped : record_refusal b m ≡ 0 → first_of (gossip_stops b m) ≡ none
    unstopped e = by-records 0 e

pub same-house : (b : Book) (j n : ℕ) (m : Stamp) → stamp_refusal b j n m ≡ 0 → (n ≡ b.screens) × (j ≢ b.me)
unfolding stamp_refusal
same-house b j n m = go (eqb n b.screens) refl (eqb j b.me) refl
  where
    go :
        (p : Bool) → eqb n b.screens ≡ p → (q : Bool) → eqb j b.me ≡ q
        → cond (not p || q) 2 (unless (row_refusal (row b j) m) (own_refusal (known b) b.me m)) ≡ 0
        → (n ≡ b.screens) × (j ≢ b.me)
    go true e false f z = (eqb-true n b.screens e, eqb-false j b.me f)
    go true e true f z = absurd (omega arith)
    go false e q f z = absurd (omega arith)
