-- The third demand holds of every run. Assumes nothing.
use Prim.Native.Nat.{ℕ, ◌<◌, ◌≤◌, suc}
use native.Mathlib.Omega.{arith}
use mathlib.Core.Path.{ap, ◌≡◌, ◌∙◌, sym, subst}
use mathlib.Core.Bool.{Bool, not, ◌&&◌, true, false}
use mathlib.Core.List.Memᴰ
use mathlib.Core.List.{List, [], ◌∷◌}
use lib.Dec.{T, eqb, eqb→eq, ltb→lt}
use lib.ListN.{length}
use Rattle.lists.specs.TestLaws.{◌∈◌, keep_mem, mem-keep, either, none_in, clash, and_l, and_r, or_cases}
use Rattle.lists.proofs.ElementLaws.{same_or_not, eq→eqb}
use Rattle.lists.specs.Order.{rising}
use Rattle.lists.proofs.Sorted.{rising-same}
use Rattle.limits.specs.Limits.{parts, prompt_count, most, fewest}
use Rattle.stamp.specs.Laws.{covers-both, fits, zeros-part, Fits, fits-zeros, Covers, at_most-parts, parts-at_most}
use Rattle.stamp.specs.Stamp.{Stamp, at_most, zeros, part, stamp_fits}
use Rattle.tally.specs.Body.{taps_in, body_fits}
use Rattle.tally.specs.Standing.{distinct, standing}
use Rattle.tally.proofs.StandingLaws.{count-has, count-put}
use Rattle.tally.specs.Tap.{fields}
use Rattle.tally.specs.declared.Tap.{Tap}
use Rattle.ledger.specs.LimitLaws.{range-parts}
use Rattle.ledger.specs.Log.{merge_all, gapless}
use Rattle.ledger.proofs.LogLaws.{merge_all-over, merge_all_under, merge_all-fits, gapless-from}
use Rattle.ledger.specs.Message.{Message, message_fits}
use Rattle.ledger.specs.Record.{Record, is_waiting, is_applied, is_known, has, stamp_of}
use Rattle.ledger.proofs.RecordLaws.{Obeys, stamp-fits, stamp_under, obeys, waiting-known, go-applied, waiting-not}
use Rattle.ledger.proofs.RecordLaws.{covered-applied, applied-label, has-from, le-known, known_le}
use Rattle.meaning.proofs.AnswerLaws.{done-answered, answered-done, AskDone}
use Rattle.meaning.specs.Book.{known, ready, Book, sound, standing_at, row}
use Rattle.meaning.specs.BookLaws.{standing-at, row-me, at-sound, known-fits, applied-here}
use Rattle.meaning.specs.Reply.{Reply, is_answered}
use Rattle.meaning.proofs.SettleLaws.{mem-taps, taps_mem}
use Rattle.meaning.specs.Step.{taps_of, gossip_stops, gossip_step, Outcome, ask}
use Rattle.meaning.proofs.StepLaws.{gossip_cases}
use Rattle.house.specs.Demand.{exactly_one, is_unknown, applied_of, applied_taps, HeardAs, is_returned, is-old}
use Rattle.house.specs.Demand.{is_spent, no_room, is-taken, Demand}
use Rattle.house.specs.House.{House, still, Step, after, Later, Run}
use Rattle.house.proofs.Invariant.{Inv, ScreenOk, Tapped, known_of, SentOk}
use Rattle.house.proofs.Numbers.{run-numbered}
use Rattle.house.proofs.Once.{run_once}
use Rattle.house.proofs.Runs.{gone-known, step_moves, step_inv, step_grows, step-rise, step_value, run_inv}

three : (k a : Bool) → (T a → T k) → T (exactly_one (not k) (k && not a) a)
three true true f = tt
three true false f = tt
three false true f = f tt
three false false f = tt

one_of_three :
    (b : Book) (r : Record)
    → T (exactly_one (is_unknown (known b) r) (is_waiting (known b) (ready b) r) (is_applied (ready b) r))
unfolding is_unknown is_waiting
one_of_three b r =
    three (is_known (known b) r) (is_applied (ready b) r) (λ a. le-known (known b) r (applied-here b r a))

applied_mem : (s : Stamp) (hs : List Record) (r : Record) → r ∈ applied_of s hs → (r ∈ hs) × T (is_applied s r)
unfolding applied_of
applied_mem s hs r m = keep_mem (is_applied s) hs m

mem-applied : (s : Stamp) (hs : List Record) (r : Record) → r ∈ hs → T (is_applied s r) → r ∈ applied_of s hs
unfolding applied_of
mem-applied s hs r m a = mem-keep (is_applied s) hs m a

-- the distinct applied taps, both ways
pub mem-taps-applied : (s : Stamp) (hs : List Record) (r : Record) (t : Tap) → r ∈ hs → T (is_applied s r)
    → t ∈ taps_in r.body → t ∈ applied_taps s hs
unfolding applied_taps distinct
mem-taps-applied s hs r t m a n =
    count-has (taps_of (applied_of s hs)) [] t (mem-taps (applied_of s hs) r t (mem-applied s hs r m a) n)

pub taps-applied_mem : (s : Stamp) (hs : List Record) (t : Tap) → t ∈ applied_taps s hs → Tapped hs s t
unfolding applied_taps distinct
taps-applied_mem s hs t m =
    either ((count-put (taps_of (applied_of s hs)) []).from t m) (λ n. go (taps_mem (applied_of s hs) t n))
    (λ n. none_in n)
  where
    go : ((r : Record) × (r ∈ applied_of s hs) × (t ∈ taps_in r.body)) → Tapped hs s t
    go w = (w.0, (applied_mem s hs w.0 w.1).0, (applied_mem s hs w.0 w.1).1, w.2)

taps-applied-rising : (s : Stamp) (hs : List Record) → T (rising fields (applied_taps s hs))
unfolding applied_taps distinct
taps-applied-rising s hs = (count-put (taps_of (applied_of s hs)) []).order tt

module _ (n : ℕ) (h : House) (v : Inv n h) (i : ℕ) (u : i < n) where
  abbrev b : Book
  b = h.book i

  ok : ScreenOk n (known_of h) h.sent h.history i b
  ok = v.screens i u

  -- the counted taps are the history's distinct applied taps
  pub counted-distinct : (h.book i).counted ≡ applied_taps (ready (h.book i)) h.history
  counted-distinct =
      rising-same fields b.counted (applied_taps (ready b) h.history) ok.book-sound.counted-order
      (taps-applied-rising (ready b) h.history)
      (λ t m. into t (ok.counted-taken t m))
      (λ t m. back t (taps-applied_mem (ready b) h.history t m))
    where
      into : (t : Tap) → Tapped h.history (ready b) t → t ∈ applied_taps (ready b) h.history
      into t w = mem-taps-applied (ready b) h.history w.0 t w.1 w.2 w.3

      back : (t : Tap) → Tapped h.history (ready b) t → t ∈ b.counted
      back t w = ok.taken-counted w.0 w.1 w.2 t w.3

  pub fresh-counts :
      (p : ℕ) → p < prompt_count
      → standing_at (h.book i) p ≡ standing (applied_taps (ready (h.book i)) h.history) p
  fresh-counts p l = standing-at b ok.book-sound p l ∙ ap (λ (ts : List Tap). standing ts p) counted-distinct

  pub value-merged : (h.book i).value ≡ merge_all (applied_of (ready (h.book i)) h.history) zeros
  value-merged =
      covers-both b.value (merge_all all zeros)
      ((fits b.screens b.value ok.book-sound.value-fits).long ∙ sym merged-long)
      (ok.value_under (merge_all all zeros)
      (λ r m a. merge_all-over all zeros (mem-applied (ready b) h.history r m a)))
      (merge_all_under all zeros b.value (λ r m. ok.value-over r (is-applied r m).0 (is-applied r m).1)
      (λ k. omega (arith, zeros-part k)))
    where
      all : List Record
      all = applied_of (ready b) h.history

      is-applied : (r : Record) → r ∈ all → (r ∈ h.history) × T (is_applied (ready b) r)
      is-applied r m = applied_mem (ready b) h.history r m

      fits-now : (r : Record) → (r ∈ h.history) × T (is_applied (ready b) r) → Obeys body_fits n r → Fits n (stamp_of r)
      fits-now r m o =
          stamp-fits n r o.label-fits o.origin_lt
          (omega (arith, range-parts b.me b.screens ok.book-sound.range, ok.size))
          (omega (arith, applied-here b r m.1, (known-fits b ok.book-sound).words r.origin))

      merged-long : length (merge_all all zeros) ≡ parts
      merged-long =
          let each : (r : Record) → r ∈ all → Fits n (stamp_of r) =
          λ r m. fits-now r (is-applied r m) (obeys body_fits n r (v.taken.obey r (is-applied r m).0)) in
          (merge_all-fits n all zeros each (fits-zeros n)).long

  -- the value stamp is at most the ready stamp
  pub value-ready : Covers (ready (h.book i)) (h.book i).value
  value-ready = ok.value_under (ready b) (λ r m a. stamp_under (ready b) r a)

  all-waiting : (r : Record) → r ∈ h.history → T (is_waiting (known b) (ready b) r) → r ∈ b.log
  all-waiting r m w =
      either (ok.kept r m (waiting-known (known b) (ready b) r w)) (λ x. x)
      (λ x. clash (is_applied (ready b) r) (go-applied (ready b) b.table r x) (waiting-not (known b) (ready b) r w))

  pub covered-is-applied :
      (x : Record) → x ∈ h.history → Covers (ready (h.book i)) (stamp_of x) → T (is_applied (ready (h.book i)) x)
  covered-is-applied x m c = covered-applied (ready b) x (obeys body_fits n x (v.taken.obey x m)).label_lt c

  closed :
      (r x : Record) → x ∈ h.history → T (is_applied (ready b) r) → T (at_most (stamp_of x) r.label)
      → T (is_applied (ready b) x)
  closed r x m a c =
      covered-is-applied x m
      (λ k. omega (arith, at_most-parts (stamp_of x) r.label c k, applied-label (ready b) r a k))

  -- how gossip sent in the house is answered
  module _ (m : Message) (x : m ∈ h.sent) where
    sent_ok : SentOk n (known_of h) h.history m
    sent_ok = v.messages m x

    not_crossed : T (not (at_most (row b m.sender) m.stamp) && not (at_most m.stamp (row b m.sender))) → ⊥
    not_crossed t =
        either (same_or_not m.sender i)
        (λ e. older (λ k. omega (
          arith,
          sent_ok.old k,
          ap (λ (j : ℕ). part (known_of h j) k) e,
          ap (λ (s : Stamp). part s k) (row-me b m.sender (e ∙ sym ok.mine)),
        )))
        (λ d. either (ok.rows-sent m.sender sent_ok.from d)
        (λ z. newer (λ k. omega (arith, z k)))
        (λ w. either (v.chain m w.0 x w.1 (sym w.2))
        (λ c. newer (λ k. omega (arith, c k, ap (λ (s : Stamp). part s k) w.3)))
        (λ c. older (λ k. omega (arith, c k, ap (λ (s : Stamp). part s k) w.3)))))
      where
        newer : Covers m.stamp (row b m.sender) → ⊥
        newer c = clash (at_most (row b m.sender) m.stamp) (parts-at_most (row b m.sender) m.stamp c)
            (and_l (not (at_most (row b m.sender) m.stamp)) (not (at_most m.stamp (row b m.sender))) t)

        older : Covers (row b m.sender) m.stamp → ⊥
        older c = clash (at_most m.stamp (row b m.sender)) (parts-at_most m.stamp (row b m.sender) c)
            (and_r (not (at_most (row b m.sender) m.stamp)) (not (at_most m.stamp (row b m.sender))) t)

    gapless-here : T (gapless b.screens (known b) m)
    gapless-here =
        gapless-from b.screens (known b) m
        (λ k q l lo g. there-still k q lo g
        (v.taken.some k q (omega (arith, ok.size))
        (omega (
          arith,
          sent_ok.old k,
          (v.screens m.sender sent_ok.from).own-most k (omega (arith, ok.size)),
        ))))
      where
        there-still : (k q : ℕ) → part (known b) k ≤ q → q < part m.stamp k
            → ((r : Record) × (r ∈ h.history) × (r.origin ≡ k) × (r.number ≡ suc q)) → T (has m.records k (suc q))
        there-still k q lo g w =
            either (sent_ok.whole w.0 w.1 (omega (arith, w.3, ap (λ (j : ℕ). part m.stamp j) w.2)))
            (λ y. has-from m.records k (suc q) w.0 y w.2 w.3)
            (λ y. absurd (omega (arith, y i u, w.3, ap (λ (j : ℕ). part (known b) j) w.2)))

    stop-answered : (c : Bool × Reply) → c ∈ gossip_stops b m → T c.0 → HeardAs i m c.1
    unfolding gossip_stops
    stop-answered =
        first (λ t. clash (sound b) (at-sound b ok.book-sound) t)
        (first (λ t. clash (message_fits body_fits m) sent_ok.fits t)
        (first (λ t. either (or_cases (not (eqb m.screens b.screens)) (eqb m.sender b.me) t)
        (λ w. clash (eqb m.screens b.screens) (eq→eqb m.screens b.screens (sent_ok.size ∙ sym ok.size))
        w)
        (λ w. is_returned (eqb→eq m.sender b.me w ∙ ok.mine)))
        (first (λ t. is-old)
        (first (λ t. absurd (not_crossed t))
        (first (λ t. absurd (omega (
          arith,
          ltb→lt (part (known b) b.me) (part m.stamp b.me) t,
          sent_ok.old b.me,
          (v.screens m.sender sent_ok.from).own-most i u,
          ap (λ (k : ℕ). part (known b) k) ok.mine,
          ap (λ (k : ℕ). part (known_of h m.sender) k) ok.mine,
        )))
        (first (λ t. is_spent)
        (first (λ t. clash (gapless b.screens (known b) m) gapless-here t)
        (first (λ t. no_room) (λ c y. none_in y)))))))))
      where
        first :
            {z : Bool × Reply} {cs : List (Bool × Reply)} → (T z.0 → HeardAs i m z.1)
            → ((c : Bool × Reply) → c ∈ cs → T c.0 → HeardAs i m c.1)
            → (c : Bool × Reply) → c ∈ z ∷ cs → T c.0 → HeardAs i m c.1
        first {z} f g c y =
            either (Memᴰ.cases_cons y) (λ e. subst (λ (w : Bool × Reply). T w.0 → HeardAs i m w.1) (sym e) f)
            (λ w. g c w)

    refused-only : HeardAs i m (gossip_step b m).reply
    refused-only =
        either (gossip_cases b m)
        (λ w. subst (λ (o : Outcome). HeardAs i m o.reply) (sym w.2) (stop w.0 w.1))
        (λ w. subst (λ (o : Outcome). HeardAs i m o.reply) (sym w.1) is-taken)
      where
        stop : (r : Reply) → ((c : Bool × Reply) × (c ∈ gossip_stops b m) × T c.0 × (c.1 ≡ r)) → HeardAs i m r
        stop r w = subst (λ (y : Reply). HeardAs i m y) w.3 (stop-answered w.0 w.1 w.2)

outside-known :
    (n : ℕ) (h : House) → Inv n h → (i : ℕ) → i < n → (r : Record) → r ∈ h.history
    → r.number ≤ part (known_of h i) r.origin → ¬ (r ∈ (h.book i).log)
    → (k : ℕ) → k < n → r.number ≤ part (known_of h k) r.origin
outside-known n h v i u r m l gone k y =
    either ((v.screens i u).kept r m l) (λ x. absurd (gone x)) (λ x. gone-known n h v i u r x k y)

leaves-known :
    (n : ℕ) (h h' : House) → Inv n h → Step n h h' → (i : ℕ) → i < n → (r : Record) → r ∈ (h.book i).log
    → ¬ (r ∈ (h'.book i).log)
    → (k : ℕ) → k < n → r.number ≤ part (known_of h k) r.origin
leaves-known n h h' v s i u r m gone k l =
    either (step_moves n s i) (λ e. absurd (gone (subst (λ (y : Book). r ∈ y.log) (sym e) m)))
    (λ f. either (same_or_not k i) (λ e. omega (arith, here-known, ap (λ (x : ℕ). part (known_of h x) r.origin) e))
    (λ d. omega (arith, after-known, ap (λ (y : Book). part (known y) r.origin) (f k d))))
  where
    v' : Inv n h'
    v' = step_inv n v s

    here-known : r.number ≤ part (known_of h i) r.origin
    here-known = (v.screens i u).book-sound.log-known r m

    after-known : r.number ≤ part (known_of h' k) r.origin
    after-known = outside-known n h' v' i u r (step_grows n s r ((v.screens i u).log-taken r m))
        (omega (arith, here-known, step-rise n v s i u r.origin)) gone k l

-- what was answered at a label is answered at it ever after
later_inv : (n : ℕ) {h h' : House} → Inv n h → Later n h h' → Inv n h'
later_inv n v still = v
later_inv n v (after r s) = step_inv n (later_inv n v r) s

later-value : (n : ℕ) {h h' : House} → Later n h h' → (k : ℕ) → Covers (h'.book k).value (h.book k).value
later-value n still k = λ c. omega arith
later-value n (after r s) k = λ c. omega (arith, later-value n r k c, step_value n s k c)

answered-after :
    (n : ℕ) (h h' : House) → Inv n h → Later n h h' → (i : ℕ) → i < n → (p q : ℕ) (l : Stamp)
    → T (is_answered (ask (h.book i) p l).reply) → q < prompt_count
    → T (is_answered (ask (h'.book i) q l).reply)
answered-after n h h' v r i u p q l t y = done-answered (h'.book i) q l (still-done (answered-done (h.book i) p l t))
  where
    v' : Inv n h'
    v' = later_inv n v r

    still-done : AskDone (h.book i) p l → AskDone (h'.book i) q l
    still-done d =
        record {
          sound-before = (v'.screens i u).book-sound;
          prompt_in_lem = y;
          label-fits = subst (λ (x : ℕ). T (stamp_fits x l)) ((v.screens i u).size ∙ sym (v'.screens i u).size)
              d.label-fits;
          covered = λ k. omega (arith, d.covered k, later-value n r i k);
        }

pub third-demand : (n : ℕ) → fewest ≤ n → n ≤ most → (h : House) → Run n h → Demand n h
third-demand n lo hi h run =
    let v : Inv n h = run_inv n lo hi run in
    record {
      one_of_three = λ i u r m. one_of_three (h.book i) r;
      only-taken = λ i u r m. (v.screens i u).log-taken r m;
      all-waiting = λ i u r m w. all-waiting n h v i u r m w;
      fresh-counts = λ i u p l. fresh-counts n h v i u p l;
      closed = λ i u r x m y a c. closed n h v i u r x y a c;
      leaves-known = λ h' s i u r m gone k l. le-known (known (h.book k)) r (leaves-known n h h' v s i u r m gone k l);
      outside-known = λ i u r m l gone k y. le-known (known (h.book k)) r
          (outside-known n h v i u r m (known_le (known (h.book i)) r l) gone k y);
      books-sound = λ i u. at-sound (h.book i) (v.screens i u).book-sound;
      refused-only = λ i u m x. refused-only n h v i u m x;
      numbered = (run-numbered n lo hi run).right;
      taken_once = run_once n lo hi run;
      counted-distinct = λ i u. counted-distinct n h v i u;
      value-merged = λ i u. value-merged n h v i u;
      answered-after = λ h' r i u p q l t y. answered-after n h h' v r i u p q l t y;
    }
