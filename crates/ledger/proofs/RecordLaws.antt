-- Laws of records: known, applied, waiting and known everywhere as facts about parts. Assumes nothing.
use Rattle.std.specs.Prelude.{◌≤◌, ◌<◌, ℕ, ◌≡◌, not, ◌&&◌, Bool, List, [], T, leb, eqb, length, get_or}
use Rattle.std.proofs.Common.{arith, subst, sym, leb→le, le→leb, eqb→eq, ltb→lt}
use Rattle.std.proofs.Math.Dec.{nleb→lt}
use Rattle.lists.specs.TestLaws.{and_l, and_r, both, every-get_or, get_or-every, ◌∈◌, exists-at, exists-from, given}
use Rattle.lists.specs.TestLaws.{either}
use Rattle.lists.proofs.ElementLaws.{eq→eqb}
use Rattle.limits.specs.Limits.{parts, word}
use Rattle.stamp.specs.Laws.{Covers, at_most-parts, parts-at_most, Fits, fits, part_replaced, part_either, fits-replace}
use Rattle.stamp.specs.Stamp.{Stamp, part, at_most}
use Rattle.ledger.specs.Record.{Record, is_known, knows, is_applied, is_waiting, everywhere, may_go, has, record_fits}
use Rattle.ledger.specs.Record.{record_rules, stamp_of}

pub known_le : (s : Stamp) (r : Record) → T (is_known s r) → r.number ≤ part s r.origin
unfolding is_known knows
known_le s r t = leb→le r.number (part s r.origin) t

pub le-known : (s : Stamp) (r : Record) → r.number ≤ part s r.origin → T (is_known s r)
unfolding is_known knows
le-known s r h = le→leb r.number (part s r.origin) h

pub unknown_lt : (s : Stamp) (r : Record) → T (not (is_known s r)) → part s r.origin < r.number
unfolding is_known knows
unknown_lt s r t = nleb→lt r.number (part s r.origin) t

pub applied-known : (s : Stamp) (r : Record) → T (is_applied s r) → r.number ≤ part s r.origin
unfolding is_applied
applied-known s r t = known_le s r (and_l (is_known s r) (at_most r.label s) t)

pub applied-label : (s : Stamp) (r : Record) → T (is_applied s r) → Covers s r.label
unfolding is_applied
applied-label s r t = at_most-parts r.label s (and_r (is_known s r) (at_most r.label s) t)

pub applied-from : (s : Stamp) (r : Record) → r.number ≤ part s r.origin → Covers s r.label → T (is_applied s r)
unfolding is_applied
applied-from s r h c = both (is_known s r) (at_most r.label s) (le-known s r h) (parts-at_most r.label s c)

pub applied_mono : (s s' : Stamp) (r : Record) → Covers s' s → T (is_applied s r) → T (is_applied s' r)
applied_mono s s' r c t =
    applied-from s' r (omega (arith, applied-known s r t, c r.origin))
    (λ k. omega (arith, applied-label s r t k, c k))

module _ (s y : Stamp) (r : Record) where
  pub waiting-known : T (is_waiting s y r) → r.number ≤ part s r.origin
  unfolding is_waiting
  waiting-known t = known_le s r (and_l (is_known s r) (not (is_applied y r)) t)

  pub waiting-not : T (is_waiting s y r) → T (not (is_applied y r))
  unfolding is_waiting
  waiting-not t = and_r (is_known s r) (not (is_applied y r)) t

  pub waiting-from : r.number ≤ part s r.origin → T (not (is_applied y r)) → T (is_waiting s y r)
  unfolding is_waiting
  waiting-from h n = both (is_known s r) (not (is_applied y r)) (le-known s r h) n

-- everywhere, row by row
pub everywhere-at : (rows : List Stamp) (k q : ℕ) → T (everywhere rows k q) → (j : ℕ) → j < length rows
    → q ≤ part (get_or rows j []) k
unfolding everywhere knows
everywhere-at rows k q t j h = leb→le q (part (get_or rows j []) k)
    (every-get_or (λ row. leb q (part row k)) rows [] t j h)

pub everywhere-from : (rows : List Stamp) (k q : ℕ) → ((j : ℕ) → j < length rows → q ≤ part (get_or rows j []) k)
    → T (everywhere rows k q)
unfolding everywhere knows
everywhere-from rows k q f =
    get_or-every (λ row. leb q (part row k)) rows [] (λ j h. le→leb q (part (get_or rows j []) k) (f j h))

-- a record that may go, and when it may
pub go-applied : (s : Stamp) (rows : List Stamp) (r : Record) → T (may_go s rows r) → T (is_applied s r)
unfolding may_go
go-applied s rows r g = and_l (is_applied s r) (everywhere rows r.origin r.number) g

pub go-everywhere : (s : Stamp) (rows : List Stamp) (r : Record) → T (may_go s rows r)
    → T (everywhere rows r.origin r.number)
unfolding may_go
go-everywhere s rows r g = and_r (is_applied s r) (everywhere rows r.origin r.number) g

pub go_from : (s : Stamp) (rows : List Stamp) (r : Record) → T (is_applied s r)
    → T (everywhere rows r.origin r.number) → T (may_go s rows r)
unfolding may_go
go_from s rows r a e = both (is_applied s r) (everywhere rows r.origin r.number) a e

-- number q of origin k in a list
pub has-at : (rs : List Record) (k q : ℕ) → T (has rs k q) → (r : Record) × (r ∈ rs) × (r.origin ≡ k) × (r.number ≡ q)
unfolding has
has-at rs k q t = go (exists-at (λ r. eqb r.origin k && eqb r.number q) rs t)
  where
    go : ((r : Record) × (r ∈ rs) × T (eqb r.origin k && eqb r.number q))
        → (r : Record) × (r ∈ rs) × (r.origin ≡ k) × (r.number ≡ q)
    go w = (
      w.0,
      w.1,
      eqb→eq w.0.origin k (and_l (eqb w.0.origin k) (eqb w.0.number q) w.2),
      eqb→eq w.0.number q (and_r (eqb w.0.origin k) (eqb w.0.number q) w.2),
    )

pub has-from : (rs : List Record) (k q : ℕ) (r : Record) → r ∈ rs → r.origin ≡ k → r.number ≡ q → T (has rs k q)
unfolding has
has-from rs k q r m e f =
    exists-from (λ x. eqb x.origin k && eqb x.number q) rs m
    (both (eqb r.origin k) (eqb r.number q) (eq→eqb r.origin k e) (eq→eqb r.number q f))

-- a record that obeys the field rules
pub record Obeys (body_fits : ℕ → Bool) (n : ℕ) (r : Record) : Type 0 where
  pub origin_lt : r.origin < n
  pub number_pos : 1 ≤ r.number
  pub label_lt : part r.label r.origin < r.number
  pub label-fits : Fits n r.label
  pub body-fits : T (body_fits r.body)

pub obeys : (body_fits : ℕ → Bool) (n : ℕ) (r : Record) → T (record_fits body_fits n r) → Obeys body_fits n r
unfolding record_fits
obeys body_fits n r t =
    given (record_rules body_fits n r) t
    (λ origin_lt number_pos label_lt label-fits body-fits.
    record {
      origin_lt = ltb→lt r.origin n origin_lt;
      number_pos = leb→le 1 r.number number_pos;
      label_lt = ltb→lt (part r.label r.origin) r.number label_lt;
      label-fits = fits n r.label label-fits;
      body-fits = body-fits;
    })

-- a record's stamp: its own number at its origin, its label elsewhere
pub stamp-origin : (r : Record) → part (stamp_of r) r.origin ≡ r.number
unfolding stamp_of
stamp-origin r = part_replaced r.label r.origin r.number

pub stamp-label : (r : Record) → part r.label r.origin < r.number → Covers (stamp_of r) r.label
unfolding stamp_of
stamp-label r h k = either (part_either r.label r.origin r.number k) (λ e. omega (arith, e.1, at e.0))
    (λ e. omega (arith, e))
  where
    at : k ≡ r.origin → part r.label k < r.number
    at e = subst (λ (j : ℕ). part r.label j < r.number) (sym e) h

pub stamp_under : (s : Stamp) (r : Record) → T (is_applied s r) → Covers s (stamp_of r)
unfolding stamp_of
stamp_under s r t k = either (part_either r.label r.origin r.number k) (λ e. omega (arith, e.1, at e.0))
    (λ e. omega (arith, e, applied-label s r t k))
  where
    at : k ≡ r.origin → r.number ≤ part s k
    at e = subst (λ (j : ℕ). r.number ≤ part s j) (sym e) (applied-known s r t)

-- a record whose stamp is covered is applied
pub covered-applied : (s : Stamp) (r : Record) → part r.label r.origin < r.number → Covers s (stamp_of r)
    → T (is_applied s r)
covered-applied s r h c =
    applied-from s r (omega (arith, stamp-origin r, c r.origin)) (λ k. omega (arith, stamp-label r h k, c k))

-- a record's stamp fits the house, if its number is a stamp's part
pub stamp-fits : (n : ℕ) (r : Record) → Fits n r.label → r.origin < n → n ≤ parts → r.number < word
    → Fits n (stamp_of r)
unfolding stamp_of
stamp-fits n r f o p w = fits-replace n r.label r.origin r.number f o p w
