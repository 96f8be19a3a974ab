-- Laws: a sound book, clause by clause; the fresh book is sound, and what a sound book sends is readable. Assumes
-- nothing.
use Rattle.std.specs.Prelude.{◌≤◌, ℕ, ◌<◌, suc, ◌+◌, zero, ◌≡◌, refl, ◌⊎◌, Bool, not, ◌||◌, [], List, T, leb, length}
use Rattle.std.specs.Prelude.{get_or, replicate}
use Rattle.std.proofs.Common.{arith, ap, subst, ◌∙◌, eqb→eq, leb→le, le→leb}
use Rattle.std.proofs.lemmas.List.{length-replicate}
use Rattle.lists.specs.TestLaws.{◌∈◌, every-at, every-get_or, if-then, given, all_from, ◌also◌, every-from}
use Rattle.lists.specs.TestLaws.{get_or-every}
use Rattle.lists.specs.TestLaws.{then_if, done, none_in, get_or_in}
use Rattle.lists.proofs.ElementLaws.{eq→eqb, every-replicate}
use Rattle.lists.specs.Order.{rising}
use Rattle.lists.specs.Tests.{every}
use Rattle.limits.specs.LimitLaws.{rooms_small}
use Rattle.limits.specs.Limits.{prompt_count, showings, log_room, book_room, count_limit}
use Rattle.stamp.specs.Laws.{Fits, fits, Covers, at_most-parts, parts-at_most, zeros-part, total_mono, fits_test}
use Rattle.stamp.specs.Laws.{fits-zeros}
use Rattle.stamp.specs.Stamp.{stamp_fits, total, part, at_most, zeros}
use Rattle.tally.specs.Body.{body_fits, taps_in}
use Rattle.tally.specs.Standing.{afresh, among, same_counts, standing, blank}
use Rattle.tally.proofs.StandingLaws.{counts_same, counts-refl, afresh-at, afresh-few, afresh-length, standing_in_lem}
use Rattle.tally.specs.Tap.{fields, tap_fits}
use Rattle.tally.proofs.TapLaws.{among_mem, mem-among}
use Rattle.tally.specs.declared.Standing.{Standing}
use Rattle.tally.specs.declared.Tap.{Tap}
use Rattle.ledger.specs.LimitLaws.{range-me}
use Rattle.ledger.specs.Log.{waiting_in}
use Rattle.ledger.proofs.LogLaws.{held_at, held-from}
use Rattle.ledger.specs.Message.{in_range, message_fits, message_rules}
use Rattle.ledger.specs.Record.{place, Record, record_fits, has, everywhere, may_go, is_applied, stamp_of, is_known}
use Rattle.ledger.specs.ReadyLaws.{ready-most}
use Rattle.ledger.proofs.RecordLaws.{known_le, le-known, applied-known}
use Rattle.meaning.specs.Book.{Book, row, known, ready, waiting, fresh, sound, clauses, counted_in, standing_at}
use Rattle.meaning.specs.Step.{send}

pub record Sound (b : Book) : Type 0 where
  pub range : T (in_range b.me b.screens)
  pub rows : length b.table ≡ b.screens
  pub rows_fit : T (every (stamp_fits b.screens) b.table)
  pub value-fits : T (stamp_fits b.screens b.value)
  pub log-order : T (rising place b.log)
  pub counted-order : T (rising fields b.counted)
  pub taps_fit : (t : Tap) → t ∈ b.counted → T (tap_fits t)
  pub log-room : length b.log ≤ log_room
  pub book-room : total (known b) ≤ book_room
  pub below : (j : ℕ) → j < b.screens → Covers (known b) (row b j)
  pub log-known : (r : Record) → r ∈ b.log → r.number ≤ part (known b) r.origin
  pub log-obeys : (r : Record) → r ∈ b.log → T (record_fits body_fits b.screens r)
  pub held :
      (k q : ℕ) → k < b.screens → q < part (known b) k
      → T (has b.log k (suc q)) ⊎ T (everywhere b.table k (suc q))
  pub stays : (r : Record) → r ∈ b.log → T (not (may_go (ready b) b.table r))
  pub log-counted :
      (r : Record) → r ∈ b.log → T (is_applied (ready b) r) → (t : Tap) → t ∈ taps_in r.body → t ∈ b.counted
  pub few : length b.counted + length (waiting b) ≤ total (known b)
  pub few-each :
      (s : Standing) → s ∈ b.prompts → s.accepts + s.declines + length (waiting b) ≤ total (known b)
  pub follow : b.prompts ≡ afresh b.counted
  pub value-known : Covers (known b) b.value
  pub value-covers : (r : Record) → r ∈ b.log → T (is_applied (ready b) r) → Covers b.value (stamp_of r)

-- what a clause of applied log records says of one
applied-says :
    (b : Book) (p : Record → Bool) → T (every (λ r. not (is_applied (ready b) r) || p r) b.log)
    → (r : Record) → r ∈ b.log → T (is_applied (ready b) r) → T (p r)
applied-says b p t r m a =
    if-then (is_applied (ready b) r) (p r) (every-at (λ x. not (is_applied (ready b) x) || p x) b.log t m) a

says-applied :
    (b : Book) (p : Record → Bool) → ((r : Record) → r ∈ b.log → T (is_applied (ready b) r) → T (p r))
    → T (every (λ r. not (is_applied (ready b) r) || p r) b.log)
says-applied b p f =
    every-from (λ x. not (is_applied (ready b) x) || p x) b.log (λ r m. then_if (is_applied (ready b) r) (p r) (f r m))

counted-says :
    (ts : List Tap) (r : Record) → T (counted_in ts r) → (t : Tap) → t ∈ taps_in r.body → t ∈ ts
unfolding counted_in
counted-says ts r h t n = among_mem t ts (every-at (among ts) (taps_in r.body) h n)

says-counted :
    (ts : List Tap) (r : Record) → ((t : Tap) → t ∈ taps_in r.body → t ∈ ts) → T (counted_in ts r)
unfolding counted_in
says-counted ts r f = every-from (among ts) (taps_in r.body) (λ t n. mem-among t ts (f t n))

below-says :
    (b : Book) → length b.table ≡ b.screens → T (every (λ s. at_most s (known b)) b.table)
    → (j : ℕ) → j < b.screens → Covers (known b) (row b j)
unfolding row
below-says b e t j h =
    at_most-parts (get_or b.table j []) (known b)
    (every-get_or (λ s. at_most s (known b)) b.table [] t j (omega (arith, e)))

-- the test of a prompt's two counts
abbrev few_test : Book → Standing → Bool
few_test b s = leb (s.accepts + s.declines + length (waiting b)) (total (known b))

pub sound-at : (b : Book) → T (sound b) → Sound b
unfolding sound clauses
sound-at b t =
    given (clauses b) t
    (λ range rows rows_fit value-fits log-order counted-order taps_fit log-room book-room below log-known log-obeys held
    stays log-counted few few-each follow value-known value-covers.
    record {
      range = range;
      rows = eqb→eq (length b.table) b.screens rows;
      rows_fit = rows_fit;
      value-fits = value-fits;
      log-order = log-order;
      counted-order = counted-order;
      taps_fit = λ u m. every-at tap_fits b.counted taps_fit m;
      log-room = leb→le (length b.log) log_room log-room;
      book-room = leb→le (total (known b)) book_room book-room;
      below = below-says b (eqb→eq (length b.table) b.screens rows) below;
      log-known = λ r m. known_le (known b) r (every-at (is_known (known b)) b.log log-known m);
      log-obeys = λ r m. every-at (record_fits body_fits b.screens) b.log log-obeys m;
      held = held_at b.screens (known b) b.table b.log held;
      stays = λ r m. every-at (λ x. not (may_go (ready b) b.table x)) b.log stays m;
      log-counted = λ r m a.
          counted-says b.counted r (applied-says b (counted_in b.counted) log-counted r m a);
      few = leb→le (length b.counted + length (waiting b)) (total (known b)) few;
      few-each = λ s m.
          leb→le (s.accepts + s.declines + length (waiting b)) (total (known b))
          (every-at (few_test b) b.prompts few-each m);
      follow = counts_same b.prompts (afresh b.counted) follow;
      value-known = at_most-parts b.value (known b) value-known;
      value-covers = λ r m a.
          at_most-parts (stamp_of r) b.value
          (applied-says b (λ x. at_most (stamp_of x) b.value) value-covers r m a);
    })

pub at-sound : (b : Book) → Sound b → T (sound b)
unfolding sound clauses row
at-sound b s =
    all_from {cs = clauses b}
    (s.range
    also eq→eqb (length b.table) b.screens s.rows
    also s.rows_fit
    also s.value-fits
    also s.log-order
    also s.counted-order
    also every-from tap_fits b.counted s.taps_fit
    also le→leb (length b.log) log_room s.log-room
    also le→leb (total (known b)) book_room s.book-room
    also get_or-every (λ x. at_most x (known b)) b.table []
    (λ j h. parts-at_most (get_or b.table j []) (known b) (s.below j (omega (arith, s.rows))))
    also every-from (is_known (known b)) b.log (λ r m. le-known (known b) r (s.log-known r m))
    also every-from (record_fits body_fits b.screens) b.log s.log-obeys
    also held-from b.screens (known b) b.table b.log s.held
    also every-from (λ r. not (may_go (ready b) b.table r)) b.log s.stays
    also says-applied b (counted_in b.counted) (λ r m a. says-counted b.counted r (s.log-counted r m a))
    also le→leb (length b.counted + length (waiting b)) (total (known b)) s.few
    also every-from (few_test b) b.prompts
    (λ x m. le→leb (x.accepts + x.declines + length (waiting b)) (total (known b)) (s.few-each x m))
    also subst (λ (x : List Standing). T (same_counts b.prompts x)) s.follow (counts-refl b.prompts)
    also parts-at_most b.value (known b) s.value-known
    also says-applied b (λ r. at_most (stamp_of r) b.value)
    (λ r m a. parts-at_most (stamp_of r) b.value (s.value-covers r m a))
    also done)

-- what every sound book has: its own row, a known stamp that fits, standings worked out afresh
pub me_in : (b : Book) → Sound b → b.me < b.screens
me_in b s = range-me b.me b.screens s.range

pub me-row : (b : Book) → Sound b → b.me < length b.table
me-row b s = omega (arith, me_in b s, s.rows)

pub known-fits : (b : Book) → Sound b → Fits b.screens (known b)
unfolding known row
known-fits b s = fits b.screens (get_or b.table b.me [])
    (every-get_or (stamp_fits b.screens) b.table [] s.rows_fit b.me (me-row b s))

pub row-me : (b : Book) (j : ℕ) → j ≡ b.me → row b j ≡ known b
unfolding known
row-me b j e = ap (λ (i : ℕ). row b i) e

-- its ready stamp is at most its known stamp
pub ready-below : (b : Book) → Covers (known b) (ready b)
unfolding ready
ready-below b = ready-most (known b) b.log

pub applied-here : (b : Book) (r : Record) → T (is_applied (ready b) r) → r.number ≤ part (known b) r.origin
applied-here b r a = omega (arith, applied-known (ready b) r a, ready-below b r.origin)

-- a standing for each prompt, and what it is
pub prompts-long : (b : Book) → Sound b → length b.prompts ≡ prompt_count
prompts-long b s = ap length s.follow ∙ afresh-length b.counted

pub standing-at : (b : Book) → Sound b → (p : ℕ) → p < prompt_count → standing_at b p ≡ standing b.counted p
unfolding standing_at
standing-at b s p h = ap (λ (xs : List Standing). get_or xs p blank) s.follow ∙ afresh-at b.counted p h

-- The counted taps have room, and no count is near its limit, also with a log's taps more. These alone go by the sum of
-- the known records.
pub counted-few : (b : Book) → Sound b → length b.counted ≤ book_room
counted-few b s = omega (arith, s.few, s.book-room)

pub counts_small :
    (b : Book) → Sound b → (x : Standing) → x ∈ b.prompts → x.accepts + x.declines + log_room < count_limit
counts_small b s x m = omega (arith, s.few-each x m, s.book-room, rooms_small)

-- what a prompt stands at: its counts are small, and its showing is one of the showings
pub standing_small :
    (b : Book) → Sound b → (p : ℕ) → p < prompt_count
    → (standing_at b p).accepts + (standing_at b p).declines + log_room < count_limit
unfolding standing_at
standing_small b s p h =
    counts_small b s (get_or b.prompts p blank) (get_or_in b.prompts p blank (omega (arith, prompts-long b s)))

pub showing_small : (b : Book) → Sound b → (p : ℕ) → p < prompt_count → (standing_at b p).showing < showings
showing_small b s p h =
    omega (arith, ap (λ (x : Standing). x.showing) (standing-at b s p h), standing_in_lem b.counted p s.taps_fit)

-- the fresh book
fresh-part : (n j k : ℕ) → part (get_or (replicate n zeros) j []) k ≡ 0
fresh-part zero j k = refl
fresh-part (suc n) zero k = zeros-part k
fresh-part (suc n) (suc j) k = fresh-part n j k

pub fresh-row : (i n j k : ℕ) → part (row (fresh i n) j) k ≡ 0
unfolding row fresh
fresh-row i n j k = fresh-part n j k

pub fresh-known : (i n k : ℕ) → part (known (fresh i n)) k ≡ 0
unfolding known fresh
fresh-known i n k = fresh-row i n i k

fresh-total : (i n : ℕ) → total (known (fresh i n)) ≡ 0
fresh-total i n = omega (arith, total_mono (known (fresh i n)) [] (λ k. omega (arith, fresh-known i n k)))

pub fresh-sound : (i n : ℕ) → T (in_range i n) → Sound (fresh i n)
unfolding fresh row known waiting waiting_in
fresh-sound i n h =
    record {
      range = h;
      rows = length-replicate n zeros;
      rows_fit = every-replicate (stamp_fits n) n zeros (fits_test n zeros (fits-zeros n));
      value-fits = fits_test n zeros (fits-zeros n);
      log-order = tt;
      counted-order = tt;
      taps_fit = λ t m. none_in m;
      log-room = omega arith;
      book-room = omega (arith, fresh-total i n);
      below = λ j l k. omega (arith, fresh-part n j k);
      log-known = λ r m. none_in m;
      log-obeys = λ r m. none_in m;
      held = λ k q l u. absurd (omega (arith, fresh-part n i k));
      stays = λ r m. none_in m;
      log-counted = λ r m. none_in m;
      few = omega arith;
      few-each = λ s m. omega (arith, afresh-few [] s m);
      follow = refl;
      value-known = λ k. omega (arith, zeros-part k);
      value-covers = λ r m. none_in m;
    }

-- a message of a sound book obeys the field rules
pub send-fits : (b : Book) → Sound b → T (message_fits body_fits (send b))
unfolding message_fits send
send-fits b s =
    all_from {cs = message_rules body_fits (send b)}
    (s.range
    also fits_test b.screens (known b) (known-fits b s)
    also le→leb (length b.log) log_room s.log-room
    also s.log-order
    also every-from (is_known (known b)) b.log (λ r m. le-known (known b) r (s.log-known r m))
    also every-from (record_fits body_fits b.screens) b.log s.log-obeys
    also done)
