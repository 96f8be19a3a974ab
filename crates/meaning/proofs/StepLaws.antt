-- Laws: what taking a body and hearing a gossip do when nothing stops them; every step keeps every sound book sound.
-- Assumes nothing.
use Prim.Native.Nat.{◌≤◌, ◌<◌, ℕ, suc, ◌+◌, max}
use Rattle.std.proofs.Common.{arith, ◌∙◌, subst, sym, nltb→le, eqb→eq}
use Rattle.std.proofs.Math.Path.{ap, refl}
use Rattle.std.specs.Prelude.{◌≡◌, ◌⊎◌, not, ◌&&◌, Bool, eqb, length, set, get_or}
use Rattle.std.proofs.Math.Logic.{inl, inr}
use mathlib.Core.List.Memᴰ
use mathlib.Core.List.{◌∷◌, []}
use Rattle.std.proofs.Math.Option.{Option, some, none}
use Rattle.std.proofs.Math.Dec.{T, nleb→lt, lt→ltb, le→leb, eqb_refl}
use Rattle.std.proofs.Math.ListN.{length-set}
use Rattle.std.proofs.Math.Seq.{get_or-set_same}
use Rattle.lists.specs.TestLaws.{here, not-not, and_l, and_r, passed, first_of-none, either, all_from, ◌also◌, done}
use Rattle.lists.specs.TestLaws.{◌∈◌}
use Rattle.lists.specs.TestLaws.{none_in, tell, clash, not_and, first_of-some}
use Rattle.lists.proofs.ElementLaws.{first_passes, set_either, every_set, nor_l, nor-r}
use Rattle.lists.specs.Order.{rising}
use Rattle.lists.specs.Tests.{every, first_of}
use Rattle.limits.specs.Limits.{word, book_room, log_room}
use Rattle.stamp.specs.Laws.{Fits, Covers, part_either, fits_test, fits-replace, part-total, total-next, part_replaced}
use Rattle.stamp.specs.Laws.{at_most-parts, part-merge, fits-merge}
use Rattle.stamp.specs.Stamp.{Stamp, stamp_fits, part, total, replace, merge, at_most}
use Rattle.tally.specs.Body.{Body, says, said_fits, taps_said, taps_in, body_fits}
use Rattle.tally.proofs.BodyLaws.{word_fits, word-taps}
use Rattle.tally.specs.Tap.{tap_fits}
use Rattle.tally.specs.declared.Tap.{Tap}
use Rattle.limits.specs.LimitLaws.{book-word}
use Rattle.ledger.specs.LimitLaws.{range-parts, range-me}
use Rattle.ledger.specs.Log.{gapless, unknowns}
use Rattle.ledger.proofs.LogLaws.{unknowns_mem, unknowns-rising, gapless-at, mem-unknowns}
use Rattle.ledger.specs.Message.{Message, message_fits, in_range}
use Rattle.ledger.proofs.MessageLaws.{readable}
use Rattle.ledger.specs.Record.{Record, place, record_fits, record_rules, has}
use Rattle.ledger.proofs.RecordLaws.{has-from, has-at}
use Rattle.meaning.specs.Book.{Book, sound, known, row, fresh}
use Rattle.meaning.specs.BookLaws.{Sound, sound-at, me-row, me_in, known-fits, row-me, at-sound, fresh-sound}
use Rattle.meaning.specs.Reply.{Reply, is_taken}
use Rattle.meaning.proofs.SettleLaws.{Ready, settle-sound}
use Rattle.meaning.specs.Step.{Outcome, stop_or, new_record, own_rows, take_book, take_out, tap_stops, tap_step}
use Rattle.meaning.specs.Step.{new_ones}
use Rattle.meaning.specs.Step.{gossip_rows, hear_book, hear_out, gossip_stops, gossip_step, open_stops}
use Rattle.meaning.specs.Done.{Unheld, TakeDone, GossipDone}

tap-passed : (b : Book) (t : Tap) (l : Stamp) → T (every (λ c. not c.0) (tap_stops b t l)) → TakeDone b (says t) l
unfolding tap_stops
tap-passed b t l p =
    passed (tap_stops b t l) p
    (λ sound-before fits own not-counted not-logged book-left log-left.
    let field = not-not (tap_fits t && stamp_fits b.screens l) fits in
    record {
      sound-before = sound-at b (not-not (sound b) sound-before);
      said_fits_lem = and_l (tap_fits t) (stamp_fits b.screens l) field;
      label-fits = and_r (tap_fits t) (stamp_fits b.screens l) field;
      own = nltb→le (part (known b) b.me) (part l b.me) own;
      unheld = λ u m. subst (Unheld b) (sym (is_t u m)) (record { not-counted = not-counted; not-logged = not-logged });
      book-left = nleb→lt book_room (total (known b)) book-left;
      log-left = nleb→lt log_room (length b.log) log-left;
    })
  where
    is_t : (u : Tap) → u ∈ t ∷ [] → u ≡ t
    is_t u m = either (Memᴰ.cases_cons m) (λ e. e) (λ n. none_in n)

-- nothing stops a tap: it is taken
pub tap-by-none :
    (b : Book) (t : Tap) (l : Stamp) → first_of (tap_stops b t l) ≡ none
    → TakeDone b (says t) l × (tap_step b t l ≡ take_out b (says t) l)
unfolding tap_step
tap-by-none b t l e = (tap-passed b t l (first_of-none (tap_stops b t l) e), ap (stop_or b (take_out b (says t) l)) e)

-- a request is stopped, and the book stays, or taken
abbrev pub Stopped : Book → Outcome → Type 0
Stopped b o = (r : Reply) × T (not (is_taken r)) × (o ≡ record { reply = r; book = b })

pub tap_cases :
    (b : Book) (t : Tap) (l : Stamp)
    → Stopped b (tap_step b t l) ⊎ (TakeDone b (says t) l × (tap_step b t l ≡ take_out b (says t) l))
unfolding tap_step tap_stops
tap_cases b t l = go (first_of (tap_stops b t l)) refl
  where
    go :
        (o : Option Reply) → first_of (tap_stops b t l) ≡ o
        → Stopped b (stop_or b (take_out b (says t) l) (first_of (tap_stops b t l)))
        ⊎ (TakeDone b (says t) l × (stop_or b (take_out b (says t) l) (first_of (tap_stops b t l))
        ≡ take_out b (says t) l))
    go (some r) e =
        let untaken = first_passes (λ x. not (is_taken x)) (tap_stops b t l) tt r e in
        inl (r, untaken, ap (stop_or b (take_out b (says t) l)) e)
    go none e = inr (tap-by-none b t l e)

-- the record that is made: it says that body and no other
module _ (b : Book) (x : Body) (l : Stamp) where
  pub new-origin : (new_record b x l).origin ≡ b.me
  unfolding new_record
  new-origin = refl

  pub new-number : (new_record b x l).number ≡ suc (part (known b) b.me)
  unfolding new_record
  new-number = refl

  pub new-taps : T (said_fits x) → taps_in (new_record b x l).body ≡ taps_said x
  unfolding new_record
  new-taps h = word-taps x h

-- the known stamp after it
abbrev pub next_known : Book → Stamp
next_known b = replace (known b) b.me (suc (part (known b) b.me))

module _ (b : Book) (x : Body) (l : Stamp) (d : TakeDone b x l) where
  pub own-now : get_or (own_rows b) b.me [] ≡ next_known b
  unfolding own_rows
  own-now = get_or-set_same b.table b.me (next_known b) [] (me-row b d.sound-before)

  next-covers : Covers (next_known b) (known b)
  next-covers k =
      either (part_either (known b) b.me (suc (part (known b) b.me)) k)
      (λ e. omega (arith, e.1, ap (λ (j : ℕ). part (known b) j) e.0)) (λ e. omega (arith, e))

  pub own_row : (j : ℕ) → ((j ≡ b.me) × (get_or (own_rows b) j [] ≡ next_known b))
      ⊎ (get_or (own_rows b) j [] ≡ row b j)
  unfolding own_rows row
  own_row j = set_either b.table b.me (next_known b) j [] (me-row b d.sound-before)

  new-obeys : T (record_fits body_fits b.screens (new_record b x l))
  unfolding record_fits new_record
  new-obeys =
      all_from {cs = record_rules body_fits b.screens (new_record b x l)}
      (lt→ltb b.me b.screens (me_in b d.sound-before)
      also le→leb 1 (suc (part (known b) b.me)) (omega arith)
      also lt→ltb (part l b.me) (suc (part (known b) b.me)) (omega (arith, d.own))
      also d.label-fits
      also word_fits x d.said_fits_lem
      also done)

  -- Refusal 7 keeps the new number a stamp's part: this alone goes by the sum of the known records.
  pub next_word : suc (part (known b) b.me) < word
  next_word = omega (arith, part-total (known b) b.me, d.book-left, book-word)

  own-rows-long : length (own_rows b) ≡ b.screens
  unfolding own_rows
  own-rows-long = length-set b.table b.me (next_known b) ∙ d.sound-before.rows

  own-rows_fit : T (every (stamp_fits b.screens) (own_rows b))
  unfolding own_rows
  own-rows_fit =
      let s = d.sound-before in
      let most = range-parts b.me b.screens s.range in
      let next = suc (part (known b) b.me) in
      every_set (stamp_fits b.screens) b.table b.me (next_known b) s.rows_fit
      (fits_test b.screens (next_known b)
      (fits-replace b.screens (known b) b.me next (known-fits b s) (me_in b s) most next_word))

  pub take-ready : Ready b (own_rows b) (new_record b x l ∷ [])
  take-ready =
      record {
        rows_long = own-rows-long;
        rows_fit = own-rows_fit;
        rise = rise;
        top = top;
        space = omega (arith, d.log-left);
        unspent = omega (arith, ap total own-now, total-next (known b) b.me, d.book-left);
        order = tt;
        above = λ r m. subst (λ (z : Record). part (known b) z.origin < z.number) (sym (only r m)) above;
        reached = λ r m. subst (λ (z : Record). z.number ≤ part now z.origin) (sym (only r m)) reached;
        obey = λ r m. subst (λ (z : Record). T (record_fits body_fits b.screens z)) (sym (only r m)) new-obeys;
        no_gap = λ k q h lo hi. gap k q lo hi;
      }
    where
      now : Stamp
      now = get_or (own_rows b) b.me []

      at : (k : ℕ) → part now k ≡ part (next_known b) k
      at k = ap (λ (s : Stamp). part s k) own-now

      rise : (j : ℕ) → j < b.screens → Covers (get_or (own_rows b) j []) (row b j)
      rise j h k =
          either (own_row j)
          (λ e. let was = ap (λ (s : Stamp). part s k) (row-me b j e.0) in
          omega (arith, ap (λ (s : Stamp). part s k) e.1, next-covers k, was))
          (λ e. omega (arith, ap (λ (s : Stamp). part s k) e))

      top : (j : ℕ) → j < b.screens → Covers now (get_or (own_rows b) j [])
      top j h k =
          either (own_row j) (λ e. omega (arith, ap (λ (s : Stamp). part s k) e.1, at k))
          (λ e. omega (arith, ap (λ (s : Stamp). part s k) e, at k, next-covers k, d.sound-before.below j h k))

      above : part (known b) (new_record b x l).origin < (new_record b x l).number
      above = omega (arith, new-number b x l, ap (λ (k : ℕ). part (known b) k) (new-origin b x l))

      reached : (new_record b x l).number ≤ part now (new_record b x l).origin
      reached =
          let mine = part_replaced (known b) b.me (suc (part (known b) b.me)) in
          omega (arith, new-number b x l, ap (λ (k : ℕ). part now k) (new-origin b x l), at b.me, mine)

      only : (r : Record) → r ∈ new_record b x l ∷ [] → r ≡ new_record b x l
      only r m = either (Memᴰ.cases_cons m) (λ e. e) (λ n. none_in n)

      gap : (k q : ℕ) → part (known b) k ≤ q → q < part now k → T (has (new_record b x l ∷ []) k (suc q))
      gap k q lo hi =
          either (part_either (known b) b.me (suc (part (known b) b.me)) k)
          (λ e. has-from (new_record b x l ∷ []) k (suc q) (new_record b x l) here (new-origin b x l ∙ sym e.0)
          (omega (arith, new-number b x l, e.1, at k, ap (λ (j : ℕ). part (known b) j) e.0)))
          (λ e. absurd (omega (arith, e, at k)))

gossip-passed : (b : Book) (m : Message) → T (every (λ c. not c.0) (gossip_stops b m)) → GossipDone b m
unfolding gossip_stops
gossip-passed b m p =
    passed (gossip_stops b m) p
    (λ sound-before rules house old crossed own unspent whole room.
    record {
      sound-before = sound-at b (not-not (sound b) sound-before);
      rules = readable body_fits m (not-not (message_fits body_fits m) rules);
      house = eqb→eq m.screens b.screens (not-not same (nor_l (not same) back house));
      other = λ e.
          clash back (subst (λ (k : ℕ). T (eqb m.sender k)) e (eqb_refl m.sender)) (nor-r (not same) back house);
      newer = at_most-parts (row b m.sender) m.stamp
          (either (tell covers) (λ h. h) (λ h. clash (not covered) old (not_and (not covers) (not covered) crossed h)));
      own = nltb→le (part (known b) b.me) (part m.stamp b.me) own;
      unspent = nltb→le book_room (total (merge (known b) m.stamp)) unspent;
      whole = not-not (gapless b.screens (known b) m) whole;
      room = nltb→le log_room (length b.log + length (new_ones b m)) room;
    })
  where
    same : Bool
    same = eqb m.screens b.screens

    back : Bool
    back = eqb m.sender b.me

    covers : Bool
    covers = at_most (row b m.sender) m.stamp

    covered : Bool
    covered = at_most m.stamp (row b m.sender)

-- nothing stops a gossip: it is heard
pub gossip-by-none :
    (b : Book) (m : Message) → first_of (gossip_stops b m) ≡ none → GossipDone b m × (gossip_step b m ≡ hear_out b m)
unfolding gossip_step
gossip-by-none b m e = (gossip-passed b m (first_of-none (gossip_stops b m) e), ap (stop_or b (hear_out b m)) e)

-- .. a stop: its reply, and the book stays
abbrev pub GossipStopped : Book → Message → Outcome → Type 0
GossipStopped b m o =
    (r : Reply)
    × ((c : Bool × Reply) × (c ∈ gossip_stops b m) × T c.0 × (c.1 ≡ r)) × (o ≡ record { reply = r; book = b })

pub gossip_cases :
    (b : Book) (m : Message)
    → GossipStopped b m (gossip_step b m) ⊎ (GossipDone b m × (gossip_step b m ≡ hear_out b m))
unfolding gossip_step
gossip_cases b m = go (first_of (gossip_stops b m)) refl
  where
    go :
        (o : Option Reply) → first_of (gossip_stops b m) ≡ o
        → GossipStopped b m (stop_or b (hear_out b m) (first_of (gossip_stops b m)))
        ⊎ (GossipDone b m × (stop_or b (hear_out b m) (first_of (gossip_stops b m)) ≡ hear_out b m))
    go (some r) e = inl (r, first_of-some (gossip_stops b m) r e, ap (stop_or b (hear_out b m)) e)
    go none e = inr (gossip-by-none b m e)

pub new_ones_lem : (b : Book) (m : Message) (r : Record) → r ∈ new_ones b m
    → (r ∈ m.records) × (part (known b) r.origin < r.number)
unfolding new_ones
new_ones_lem b m r n = unknowns_mem (known b) m.records r n

module _ (b : Book) (m : Message) (d : GossipDone b m) where
  sender_in_lem : m.sender < b.screens
  sender_in_lem = omega (arith, range-me m.sender m.screens d.rules.range, d.house)

  me-row-still : b.me < length (set b.table m.sender m.stamp)
  me-row-still = omega (arith, length-set b.table m.sender m.stamp, me-row b d.sound-before)

  -- the rows after a gossip
  pub gossip-row :
      (j : ℕ) → ((j ≡ b.me) × (get_or (gossip_rows b m) j [] ≡ merge (known b) m.stamp))
      ⊎ (((j ≡ m.sender) × (get_or (gossip_rows b m) j [] ≡ m.stamp)) ⊎ (get_or (gossip_rows b m) j [] ≡ row b j))
  unfolding gossip_rows row
  gossip-row j =
      either (set_either (set b.table m.sender m.stamp) b.me (merge (known b) m.stamp) j [] me-row-still)
      (λ e. inl e)
      (λ e. inr (either (set_either b.table m.sender m.stamp j []
      (omega (arith, sender_in_lem, d.sound-before.rows))) (λ f. inl (f.0, e ∙ f.1)) (λ f. inr (e ∙ f))))

  pub gossip-now : get_or (gossip_rows b m) b.me [] ≡ merge (known b) m.stamp
  unfolding gossip_rows
  gossip-now = get_or-set_same (set b.table m.sender m.stamp) b.me (merge (known b) m.stamp) []
      me-row-still

  now-part : (k : ℕ) → part (get_or (gossip_rows b m) b.me []) k ≡ max (part (known b) k) (part m.stamp k)
  now-part k = ap (λ (s : Stamp). part s k) gossip-now ∙ part-merge (known b) m.stamp k

  stamp_in_lem : Fits b.screens m.stamp
  stamp_in_lem = subst (λ (n : ℕ). Fits n m.stamp) d.house d.rules.stamp-fits

  gossip-rows-long : length (gossip_rows b m) ≡ b.screens
  unfolding gossip_rows
  gossip-rows-long = length-set (set b.table m.sender m.stamp) b.me (merge (known b) m.stamp)
      ∙ length-set b.table m.sender m.stamp ∙ d.sound-before.rows

  gossip-rows_fit : T (every (stamp_fits b.screens) (gossip_rows b m))
  unfolding gossip_rows
  gossip-rows_fit =
      every_set (stamp_fits b.screens) (set b.table m.sender m.stamp) b.me (merge (known b) m.stamp)
      (every_set (stamp_fits b.screens) b.table m.sender m.stamp d.sound-before.rows_fit
      (fits_test b.screens m.stamp stamp_in_lem))
      (fits_test b.screens (merge (known b) m.stamp)
      (fits-merge b.screens (known b) m.stamp (known-fits b d.sound-before) stamp_in_lem))

  new-order : T (rising place (new_ones b m))
  unfolding new_ones
  new-order = unknowns-rising (known b) m.records d.rules.order

  new-whole : (k q : ℕ) → k < b.screens → part (known b) k ≤ q → q < part (get_or (gossip_rows b m) b.me []) k
      → T (has (new_ones b m) k (suc q))
  unfolding new_ones
  new-whole k q h lo hi = go
      (has-at m.records k (suc q)
      (gapless-at b.screens (known b) m d.whole k q h lo (omega (arith, now-part k))))
    where
      go : ((r : Record) × (r ∈ m.records) × (r.origin ≡ k) × (r.number ≡ suc q))
          → T (has (unknowns (known b) m.records) k (suc q))
      go w =
          has-from (unknowns (known b) m.records) k (suc q) w.0
          (mem-unknowns (known b) m.records w.0 w.1
          (omega (arith, w.3, ap (λ (i : ℕ). part (known b) i) w.2))) w.2 w.3

  pub gossip-ready : Ready b (gossip_rows b m) (new_ones b m)
  gossip-ready =
      record {
        rows_long = gossip-rows-long;
        rows_fit = gossip-rows_fit;
        rise = λ j h k. either (gossip-row j)
            (λ e. omega (
              arith,
              ap (λ (s : Stamp). part s k) e.1,
              part-merge (known b) m.stamp k,
              ap (λ (s : Stamp). part s k) (row-me b j e.0),
            ))
            (λ w. either w (λ e. omega (
              arith,
              ap (λ (s : Stamp). part s k) e.1,
              d.newer k,
              ap (λ (i : ℕ). part (row b i) k) e.0,
            )) (λ e. omega (arith, ap (λ (s : Stamp). part s k) e)));
        top = λ j h k. either (gossip-row j)
            (λ e. omega (arith, ap (λ (s : Stamp). part s k) e.1, ap (λ (s : Stamp). part s k) gossip-now))
            (λ w. either w (λ e. omega (arith, ap (λ (s : Stamp). part s k) e.1, now-part k))
            (λ e. omega (arith, ap (λ (s : Stamp). part s k) e, now-part k, d.sound-before.below j h k)));
        space = d.room;
        unspent = omega (arith, ap total gossip-now, d.unspent);
        order = new-order;
        above = λ r n. (new_ones_lem b m r n).1;
        reached = λ r n. omega (arith, now-part r.origin, d.rules.reached r (new_ones_lem b m r n).0);
        obey = λ r n.
            subst (λ (i : ℕ). T (record_fits body_fits i r)) d.house (d.rules.obey r (new_ones_lem b m r n).0);
        no_gap = λ k q h lo hi. new-whole k q h lo hi;
      }

-- Every step keeps every sound book sound, reached in a run or not.
pub open-sound : (right_length : Bool) (i n : ℕ) → first_of (open_stops right_length i n) ≡ none → T (sound (fresh i n))
unfolding open_stops
open-sound right_length i n e =
    passed (open_stops right_length i n) (first_of-none (open_stops right_length i n) e)
    (λ long range. at-sound (fresh i n) (fresh-sound i n (not-not (in_range i n) range)))

pub take-sound : (b : Book) (x : Body) (l : Stamp) → TakeDone b x l → Sound (take_book b x l)
unfolding take_book
take-sound b x l d = settle-sound b (own_rows b) (new_record b x l ∷ []) d.sound-before (take-ready b x l d)

pub tap-sound : (b : Book) (t : Tap) (l : Stamp) → T (sound b) → T (sound (tap_step b t l).book)
tap-sound b t l s =
    either (tap_cases b t l) (λ w. subst (λ (o : Outcome). T (sound o.book)) (sym w.2) s)
    (λ w. subst (λ (o : Outcome). T (sound o.book)) (sym w.1)
    (at-sound (take_book b (says t) l) (take-sound b (says t) l w.0)))

pub hear-sound : (b : Book) (m : Message) → GossipDone b m → Sound (hear_book b m)
unfolding hear_book
hear-sound b m d = settle-sound b (gossip_rows b m) (new_ones b m) d.sound-before (gossip-ready b m d)

pub gossip-sound : (b : Book) (m : Message) → T (sound b) → T (sound (gossip_step b m).book)
gossip-sound b m s =
    either (gossip_cases b m) (λ w. subst (λ (o : Outcome). T (sound o.book)) (sym w.2) s)
    (λ w. subst (λ (o : Outcome). T (sound o.book)) (sym w.1) (at-sound (hear_book b m) (hear-sound b m w.0)))
