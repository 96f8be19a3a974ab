-- One turn of a walk over the log's rows: what the rows from a place on hold. Assumes nothing.
--     records-all    from the front it is all of them
--     records-next   the row at the place, and those past it
--     records-none   past the last row there are none
--     record-lent    the row at the place, as it is lent
--     row_lent       the i-th row, as it is lent
--     record_in      the i-th record
use Rattle.std.specs.Prelude.{ℕ, suc, ◌+◌, ◌-◌, ◌*◌, ◌≤◌, ◌<◌, ◌≡◌, refl, List, [], ◌∷◌, take, drop, get_or}
use Rattle.std.proofs.Common.{arith, ap, ◌∙◌, drop-drop}
use Rattle.std.proofs.Math.ListN.{get_or-map}
use Rattle.std.proofs.Math.Nat.{sub-zero}
use Rattle.lists.specs.RowLaws.{rows_at}
use Rattle.lists.specs.Rows.{rows}
use Rattle.ledger.specs.Record.{Record}
use Rattle.book_log.specs.Region.{row_long, record_at, records_at}

-- the records of the rows from the i-th of n on, which starts at a place
unfoldable pub records_from : ℕ → List ℕ → ℕ → ℕ → List Record
records_from n r i at = records_at (n - i) (drop at r)

-- the record of the row at a place
unfoldable pub row_record : List ℕ → ℕ → Record
row_record r at = record_at (take row_long (drop at r))

pub records-all : (n : ℕ) (r : List ℕ) → records_at n r ≡ records_from n r 0 0
unfolding records_from
records-all n r = rw sub-zero

pub records-next : (n : ℕ) (r : List ℕ) (i at : ℕ) → i < n
    → records_from n r i at ≡ row_record r at ∷ records_from n r (i + 1) (at + row_long)
unfolding records_from row_record records_at rows
records-next n r i at h =
    let e : n - i ≡ suc (n - (i + 1)) = omega arith in
    rw (e, drop-drop row_long at r)

pub records-none : (n : ℕ) (r : List ℕ) (i at : ℕ) → n ≤ i → records_from n r i at ≡ []
unfolding records_from records_at rows
records-none n r i at h =
    let e : n - i ≡ 0 = omega arith in
    rw e

-- the same row lent as a part
abbrev pub lent_at : List ℕ → ℕ → Record
lent_at r at = record_at (take (at + row_long - at) (drop at r))

pub record-lent : (r : List ℕ) (at : ℕ) → lent_at r at ≡ row_record r at
unfolding row_record
record-lent r at =
    let e : at + row_long - at ≡ row_long = omega arith in
    rw e

-- and lent as an array
pub row_lent : (rs : List (List ℕ)) (n : ℕ) (r : List ℕ) (i : ℕ) → rs ≡ rows row_long n r → i < n
    → record_at (get_or rs i []) ≡ row_record r (i * row_long)
unfolding row_record
row_lent rs n r i e h = rw e (ap record_at (rows_at row_long n r i h))

-- and the i-th record
pub record_in : (n : ℕ) (r : List ℕ) (i : ℕ) → i < n
    → get_or (records_at n r) i (record_at []) ≡ row_record r (i * row_long)
unfolding records_at
record_in n r i h = get_or-map record_at (rows row_long n r) i [] ∙ row_lent (rows row_long n r) n r i refl h
