-- Laws: putting a sound book in order keeps it sound, and what it does to the log, the counted taps and the value
-- stamp. Assumes nothing.
use Rattle.std.specs.Prelude.{◌≤◌, ℕ, ◌<◌, ◌+◌, suc, ◌≡◌, ◌⊎◌, not, ltb, get_or}
use native.Mathlib.Omega.{arith}
use Rattle.std.proofs.Math.Path.{ap, refl, subst}
use Rattle.std.proofs.Common.{sym, ltb→lt, nltb→le, length-append}
use Rattle.std.proofs.Math.Logic.{inr, inl}
use mathlib.Core.List.{List, flat_map, [], ◌∷◌}
use Rattle.std.proofs.Math.Dec.{T}
use Rattle.std.proofs.Math.ListN.{length}
use Rattle.lists.specs.TestLaws.{◌∈◌, flat_map_mem, mem-flat_map, either, tell, every-get_or}
use Rattle.lists.specs.Order.{rising}
use Rattle.lists.proofs.Sorted.{rising-one, Put}
use Rattle.lists.specs.Tests.{every}
use Rattle.limits.specs.Limits.{word, log_room, book_room}
use Rattle.stamp.specs.Laws.{Fits, Covers, fits, fits_test}
use Rattle.stamp.specs.Stamp.{Stamp, stamp_fits, total, part}
use Rattle.tally.specs.Body.{taps_in, body_fits}
use Rattle.tally.proofs.BodyLaws.{taps-one, taps-body}
use Rattle.tally.proofs.CountingLaws.{counting-taps, counting-afresh, counting-few}
use Rattle.tally.specs.Standing.{afresh, count_all}
use Rattle.tally.proofs.StandingLaws.{count-put, count-has}
use Rattle.tally.specs.Tap.{fields, tap_fits}
use Rattle.tally.proofs.TapLaws.{prompt_in_lem}
use Rattle.tally.specs.declared.Standing.{Standing}
use Rattle.tally.specs.declared.Tap.{Tap}
use Rattle.ledger.specs.LimitLaws.{range-parts}
use Rattle.ledger.specs.Log.{gathered, remaining, waiting_in}
use Rattle.ledger.proofs.LogLaws.{put-log, same_place, newly_mem, mem-newly, remaining_mem, remains_or_goes, few-newly}
use Rattle.ledger.proofs.LogLaws.{raise-total, merge_all_base, merge_all-over, merge_all_under, merge_all-fits}
use Rattle.ledger.proofs.LogLaws.{remaining-rising, remaining_le}
use Rattle.ledger.specs.ReadyLaws.{ready-rises, ready_drops}
use Rattle.ledger.specs.Record.{Record, place, record_fits, has, is_applied, may_go, everywhere, stamp_of}
use Rattle.ledger.proofs.RecordLaws.{obeys, everywhere-from, everywhere-at, go_from, applied_mono, go-applied}
use Rattle.ledger.proofs.RecordLaws.{go-everywhere, has-at, has-from, Obeys, stamp-fits, stamp_under}
use Rattle.meaning.specs.Book.{Book, row, known, ready, waiting}
use Rattle.meaning.specs.BookLaws.{Sound, me_in, ready-below, applied-here}
use Rattle.meaning.specs.Step.{taps_of, settle, now_ready, now_applied, now_noted}

-- a record says at most one tap
pub taps-few : (rs : List Record) → length (taps_of rs) ≤ length rs
unfolding taps_of flat_map
taps-few [] = omega arith
taps-few (r ∷ rs) = omega (
  arith,
  length-append (taps_in r.body) (flat_map (λ x. taps_in x.body) rs),
  taps-one r.body,
  taps-few rs,
)

-- the taps of some records, both ways
pub taps_mem : (rs : List Record) (t : Tap) → t ∈ taps_of rs → (r : Record) × (r ∈ rs) × (t ∈ taps_in r.body)
unfolding taps_of
taps_mem rs t m = flat_map_mem (λ r. taps_in r.body) rs m

pub mem-taps : (rs : List Record) (r : Record) (t : Tap) → r ∈ rs → t ∈ taps_in r.body → t ∈ taps_of rs
unfolding taps_of
mem-taps rs r t m n = mem-flat_map (λ x. taps_in x.body) rs m n

-- What a step has seen to when it puts the book in order.
pub record Ready (b : Book) (rows : List Stamp) (new : List Record) : Type 0 where
  pub rows_long : length rows ≡ b.screens
  pub rows_fit : T (every (stamp_fits b.screens) rows)
  pub rise : (j : ℕ) → j < b.screens → Covers (get_or rows j []) (row b j)
  pub top : (j : ℕ) → j < b.screens → Covers (get_or rows b.me []) (get_or rows j [])
  pub space : length b.log + length new ≤ log_room
  pub unspent : total (get_or rows b.me []) ≤ book_room
  pub order : T (rising place new)
  pub above : (r : Record) → r ∈ new → part (known b) r.origin < r.number
  pub reached : (r : Record) → r ∈ new → r.number ≤ part (get_or rows b.me []) r.origin
  pub obey : (r : Record) → r ∈ new → T (record_fits body_fits b.screens r)
  pub no_gap : (k q : ℕ) → k < b.screens → part (known b) k ≤ q → q < part (get_or rows b.me []) k
      → T (has new k (suc q))

module _ (b : Book) (rows : List Stamp) (new : List Record) (s : Sound b) (y : Ready b rows new) where
  -- the known stamp after the step, the records of the step, and the taps that it finds applied
  abbrev now : Stamp
  now = get_or rows b.me []

  abbrev all_of : List Record
  all_of = gathered new b.log

  abbrev taps-now : List Tap
  taps-now = taps_of (now_applied b now new)

  pub known-now : known (settle b rows new) ≡ get_or rows b.me []
  unfolding settle known row
  known-now = refl

  pub known-rise : Covers (get_or rows b.me []) (known b)
  unfolding known
  known-rise k = y.rise b.me (me_in b s) k

  now-stamp : Fits b.screens now
  now-stamp =
      let mine : b.me < length rows = omega (arith, me_in b s, y.rows_long) in
      fits b.screens now (every-get_or (stamp_fits b.screens) rows [] y.rows_fit b.me mine)

  -- the ready stamp after the step: dropping does not move it, and it has risen
  ready-after : ready (settle b rows new) ≡ now_ready b now new
  unfolding ready settle known row now_ready
  ready-after = ready_drops now rows all_of

  now-rise : Covers (now_ready b now new) (ready b)
  unfolding now_ready ready
  now-rise = ready-rises (known b) now new b.log known-rise y.above

  pub ready-rise : Covers (ready (settle b rows new)) (ready b)
  ready-rise k = omega (arith, ap (λ (x : Stamp). part x k) ready-after, now-rise k)

  -- the records of the step
  pub new-gathered : (r : Record) → r ∈ new → r ∈ gathered new b.log
  new-gathered r m = go ((put-log new b.log).has r m)
    where
      go : ((z : Record) × (z ∈ all_of) × (place z ≡ place r)) → r ∈ all_of
      go w =
          either ((put-log new b.log).from w.0 w.1)
          (λ n. subst (λ (x : Record). x ∈ all_of) (rising-one place new y.order n m w.2) w.1)
          (λ n. absurd (old (same_place w.0 r w.2) n))
        where
          old : (w.0.origin ≡ r.origin) × (w.0.number ≡ r.number) → w.0 ∈ b.log → ⊥
          old e n =
              omega (arith, s.log-known w.0 n, y.above r m, e.1, ap (λ (k : ℕ). part (known b) k) e.0)

  gathered-known : (r : Record) → r ∈ all_of → r.number ≤ part now r.origin
  gathered-known r m =
      either ((put-log new b.log).from r m) (λ n. y.reached r n)
      (λ n. omega (arith, s.log-known r n, known-rise r.origin))

  pub gathered-obeys : (r : Record) → r ∈ gathered new b.log → T (record_fits body_fits b.screens r)
  gathered-obeys r m = either ((put-log new b.log).from r m) (λ n. y.obey r n) (λ n. s.log-obeys r n)

  -- an applied record that is gathered was in the log
  pub gathered-old : (r : Record) → r ∈ gathered new b.log → T (is_applied (ready b) r) → r ∈ b.log
  gathered-old r m a =
      either ((put-log new b.log).from r m) (λ n. absurd (omega (arith, y.above r n, applied-here b r a))) (λ n. n)

  -- what becomes applied
  now_mem :
      (r : Record) → r ∈ now_applied b now new
      → (r ∈ all_of) × T (is_applied (ready (settle b rows new)) r) × T (not (is_applied (ready b) r))
  unfolding now_applied
  now_mem r m =
      let w = newly_mem (ready b) (now_ready b now new) all_of r m in
      (w.0, subst (λ (x : Stamp). T (is_applied x r)) (sym ready-after) w.1, w.2)

  mem-now :
      (r : Record) → r ∈ all_of → T (is_applied (ready (settle b rows new)) r) → T (not (is_applied (ready b) r))
      → r ∈ now_applied b now new
  unfolding now_applied
  mem-now r m a n =
      mem-newly (ready b) (now_ready b now new) all_of r m (subst (λ (x : Stamp). T (is_applied x r)) ready-after a) n

  now-obeys : (r : Record) → r ∈ now_applied b now new → Obeys body_fits b.screens r
  now-obeys r m = obeys body_fits b.screens r (gathered-obeys r (now_mem r m).0)

  tap-fits : (t : Tap) → t ∈ taps-now → T (tap_fits t)
  tap-fits t m = go (taps_mem (now_applied b now new) t m)
    where
      go : ((r : Record) × (r ∈ now_applied b now new) × (t ∈ taps_in r.body)) → T (tap_fits t)
      go w = taps-body w.0.body (now-obeys w.0 w.1).body-fits t w.2

  -- the counted taps after the step are those that were and those of what becomes applied
  pub counted-after :
      (settle b rows new).counted ≡ count_all (taps_of (now_applied b (get_or rows b.me []) new)) b.counted
  unfolding settle now_noted
  counted-after = counting-taps taps-now b.counted b.prompts s.counted-order

  put-counted : Put fields taps-now b.counted (settle b rows new).counted
  put-counted = subst (Put fields taps-now b.counted) (sym counted-after) (count-put taps-now b.counted)

  -- a counted tap was counted, or a record that is applied has it
  pub counted-from :
      (t : Tap) → t ∈ (settle b rows new).counted
      → (t ∈ b.counted)
      ⊎ ((r : Record)
      × (r ∈ gathered new b.log) × T (is_applied (ready (settle b rows new)) r) × (t ∈ taps_in r.body))
  counted-from t m =
      either (put-counted.from t m) (λ n. inr (go (taps_mem (now_applied b now new) t n))) (λ n. inl n)
    where
      go :
          ((r : Record) × (r ∈ now_applied b now new) × (t ∈ taps_in r.body))
          → (r : Record) × (r ∈ all_of) × T (is_applied (ready (settle b rows new)) r) × (t ∈ taps_in r.body)
      go w = (w.0, (now_mem w.0 w.1).0, (now_mem w.0 w.1).1, w.2)

  pub counted-old : (t : Tap) → t ∈ b.counted → t ∈ (settle b rows new).counted
  counted-old t m = put-counted.stays t m

  -- the taps of an applied record of the gathered log are counted
  pub counted-now :
      (r : Record) → r ∈ gathered new b.log → T (is_applied (ready (settle b rows new)) r)
      → (t : Tap) → t ∈ taps_in r.body → t ∈ (settle b rows new).counted
  counted-now r m a t n =
      either (tell (is_applied (ready b) r)) (λ o. counted-old t (s.log-counted r (gathered-old r m o) o t n))
      (λ o. subst (λ (ts : List Tap). t ∈ ts) (sym counted-after)
      (count-has taps-now b.counted t (mem-taps (now_applied b now new) r t (mem-now r m a o) n)))

  counted_fit : (t : Tap) → t ∈ (settle b rows new).counted → T (tap_fits t)
  counted_fit t m = either (put-counted.from t m) (λ n. tap-fits t n) (λ n. s.taps_fit t n)

  -- counts go on following from counted taps
  follow-now : (settle b rows new).prompts ≡ afresh (settle b rows new).counted
  unfolding settle now_noted
  follow-now = counting-afresh taps-now b.counted b.prompts s.follow (λ t m. prompt_in_lem t (tap-fits t m))

  -- a gathered record stays in the log, or may go
  pub log-from :
      (r : Record) → r ∈ (settle b rows new).log
      → (r ∈ gathered new b.log) × T (not (may_go (ready (settle b rows new)) rows r))
  unfolding settle
  log-from r m =
      let w = remaining_mem (now_ready b now new) rows all_of r m in
      (w.0, subst (λ (x : Stamp). T (not (may_go x rows r))) (sym ready-after) w.1)

  pub log_or-gone :
      (r : Record) → r ∈ gathered new b.log
      → (r ∈ (settle b rows new).log) ⊎ T (may_go (ready (settle b rows new)) rows r)
  unfolding settle
  log_or-gone r m =
      either (remains_or_goes (now_ready b now new) rows all_of r m) (λ n. inl n)
      (λ g. inr (subst (λ (x : Stamp). T (may_go x rows r)) (sym ready-after) g))

  rise-at : (j : ℕ) → j < b.screens → (i : ℕ) → part (get_or b.table j []) i ≤ part (get_or rows j []) i
  unfolding row
  rise-at j h i = y.rise j h i

  -- what was known everywhere still is
  everywhere-rise : (k q : ℕ) → T (everywhere b.table k q) → T (everywhere rows k q)
  everywhere-rise k q t =
      everywhere-from rows k q
      (λ j i. let was = everywhere-at b.table k q t j (omega (arith, y.rows_long, s.rows)) in
      omega (arith, was, rise-at j (omega (arith, y.rows_long)) k))

  pub go-rise : (r : Record) → T (may_go (ready b) b.table r) → T (may_go (ready (settle b rows new)) rows r)
  go-rise r g =
      let a = applied_mono (ready b) (ready (settle b rows new)) r ready-rise (go-applied (ready b) b.table r g) in
      let e = everywhere-rise r.origin r.number (go-everywhere (ready b) b.table r g) in
      go_from (ready (settle b rows new)) rows r a e

  held-now :
      (k q : ℕ) → k < b.screens → q < part now k
      → T (has (settle b rows new).log k (suc q)) ⊎ T (everywhere rows k (suc q))
  held-now k q h l =
      either (tell (ltb q (part (known b) k)))
      (λ u. either (s.held k q h (ltb→lt q (part (known b) k) u)) (λ v. old (has-at b.log k (suc q) v))
      (λ v. inr (everywhere-rise k (suc q) v)))
      (λ u. came (has-at new k (suc q) (y.no_gap k q h (nltb→le q (part (known b) k) u) l)))
    where
      found :
          (r : Record) → r ∈ all_of → r.origin ≡ k → r.number ≡ suc q
          → T (has (settle b rows new).log k (suc q)) ⊎ T (everywhere rows k (suc q))
      found r m e f =
          either (log_or-gone r m) (λ n. inl (has-from (settle b rows new).log k (suc q) r n e f))
          (λ g. inr (subst (λ (i : ℕ). T (everywhere rows i (suc q))) e
          (subst (λ (i : ℕ). T (everywhere rows r.origin i)) f
          (go-everywhere (ready (settle b rows new)) rows r g))))

      old :
          ((r : Record) × (r ∈ b.log) × (r.origin ≡ k) × (r.number ≡ suc q))
          → T (has (settle b rows new).log k (suc q)) ⊎ T (everywhere rows k (suc q))
      old w = found w.0 ((put-log new b.log).stays w.0 w.1) w.2 w.3

      came :
          ((r : Record) × (r ∈ new) × (r.origin ≡ k) × (r.number ≡ suc q))
          → T (has (settle b rows new).log k (suc q)) ⊎ T (everywhere rows k (suc q))
      came w = found w.0 (new-gathered w.0 w.1) w.2 w.3

  -- no more become applied or wait than came or waited
  few-all :
      length (now_applied b now new) + length (waiting (settle b rows new)) ≤ length new + length (waiting b)
  unfolding waiting now_applied settle known row
  few-all =
      let few = few-newly (known b) now (ready b) (now_ready b now new) rows new b.log now-rise s.log-known in
      omega (
        arith,
        few,
        ap (λ (x : Stamp). length (waiting_in now x (remaining (now_ready b now new) rows all_of))) ready-after,
      )

  total-now : total (known b) + length new ≤ total now
  total-now = raise-total new (known b) now y.order y.above y.reached known-rise

  few-now : length (settle b rows new).counted + length (waiting (settle b rows new)) ≤ total now
  few-now = omega (arith, put-counted.long, taps-few (now_applied b now new), few-all, s.few, total-now)

  few-each-now :
      (x : Standing) → x ∈ (settle b rows new).prompts
      → x.accepts + x.declines + length (waiting (settle b rows new)) ≤ total now
  unfolding settle now_noted
  few-each-now x m =
      let w = length (waiting b) in
      let n = total (known b) in
      let few = counting-few taps-now b.counted b.prompts w n s.few-each (omega (arith, s.few)) x m in
      omega (arith, few, taps-few (now_applied b now new), few-all, total-now)

  -- the value stamp after
  pub value-now :
      (r : Record) → r ∈ gathered new b.log → T (is_applied (ready (settle b rows new)) r)
      → Covers (settle b rows new).value (stamp_of r)
  unfolding settle
  value-now r m a =
      let base = merge_all_base (now_applied b now new) b.value in
      either (tell (is_applied (ready b) r))
      (λ o k. omega (arith, s.value-covers r (gathered-old r m o) o k, base k))
      (λ o. merge_all-over (now_applied b now new) b.value (mem-now r m a o))

  pub value-old : Covers (settle b rows new).value b.value
  unfolding settle
  value-old = merge_all_base (now_applied b now new) b.value

  pub value_least :
      (x : Stamp)
      → ((r : Record) → r ∈ gathered new b.log → T (is_applied (ready (settle b rows new)) r) → Covers x (stamp_of r))
      → Covers x b.value → Covers x (settle b rows new).value
  unfolding settle
  value_least x f c =
      merge_all_under (now_applied b now new) b.value x (λ r m. f r (now_mem r m).0 (now_mem r m).1) c

  now-fits : (r : Record) → r ∈ now_applied b now new → Fits b.screens (stamp_of r)
  now-fits r m =
      let o = now-obeys r m in
      let low : r.number < word = omega (arith, gathered-known r (now_mem r m).0, now-stamp.words r.origin) in
      stamp-fits b.screens r o.label-fits o.origin_lt (range-parts b.me b.screens s.range) low

  stamp-now : (r : Record) → r ∈ now_applied b now new → Covers now (stamp_of r)
  stamp-now r m k =
      omega (
        arith,
        stamp_under (ready (settle b rows new)) r (now_mem r m).1 k,
        ready-below (settle b rows new) k,
        ap (λ (x : Stamp). part x k) known-now,
      )

  value-fits-now : Fits b.screens (settle b rows new).value
  unfolding settle
  value-fits-now =
      let before = fits b.screens b.value s.value-fits in
      merge_all-fits b.screens (now_applied b now new) b.value now-fits before

  value_under-now : Covers now (settle b rows new).value
  unfolding settle
  value_under-now =
      let before : Covers now b.value = λ k. omega (arith, s.value-known k, known-rise k) in
      merge_all_under (now_applied b now new) b.value now stamp-now before

  pub settle-sound : Sound (settle b rows new)
  unfolding settle known row
  settle-sound =
      record {
        range = s.range;
        rows = y.rows_long;
        rows_fit = y.rows_fit;
        value-fits = fits_test b.screens (settle b rows new).value value-fits-now;
        log-order = remaining-rising (now_ready b now new) rows all_of ((put-log new b.log).order s.log-order);
        counted-order = put-counted.order s.counted-order;
        taps_fit = counted_fit;
        log-room = omega (arith, remaining_le (now_ready b now new) rows all_of, (put-log new b.log).long, y.space);
        book-room = y.unspent;
        below = λ j h. y.top j h;
        log-known = λ r m. gathered-known r (log-from r m).0;
        log-obeys = λ r m. gathered-obeys r (log-from r m).0;
        held = held-now;
        stays = λ r m. (log-from r m).1;
        log-counted = λ r m a t n. counted-now r (log-from r m).0 a t n;
        few = few-now;
        few-each = few-each-now;
        follow = follow-now;
        value-known = value_under-now;
        value-covers = λ r m a. value-now r (log-from r m).0 a;
      }
