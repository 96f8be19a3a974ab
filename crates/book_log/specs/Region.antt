-- The log as words: a row for each record (origin, number, the label's parts, body), unused rows zero. Assumes nothing.
use Rattle.std.specs.Prelude.{ℕ, ◌+◌, ◌-◌, ◌*◌, List, [], ◌∷◌, ◌++◌, map, length, get_or, take, drop, replicate}
use Rattle.limits.specs.Limits.{parts}
use Rattle.lists.specs.Rows.{rows, flat}
use Rattle.ledger.specs.Record.{Record}

-- where a row's body stands, behind origin, number and the label's parts; a row's length, and a stamp's
abbrev pub body_place : ℕ
body_place = 2 + parts

abbrev pub row_long : ℕ
row_long = body_place + 1

abbrev pub stamp_long : ℕ
stamp_long = parts

-- the record that a row holds, and the row of a record
abbrev pub record_at : List ℕ → Record
record_at c = record {
  origin = get_or c 0 0;
  number = get_or c 1 0;
  label = take parts (drop 2 c);
  body = get_or c body_place 0;
}

abbrev pub row_of : Record → List ℕ
row_of r = r.origin ∷ r.number ∷ r.label ++ (r.body ∷ [])

-- the records that some rows hold, and those that the first n rows hold
abbrev pub records_of : List (List ℕ) → List Record
records_of rs = map record_at rs

unfoldable pub records_at : ℕ → List ℕ → List Record
records_at n r = records_of (rows row_long n r)

-- some records over a region of so many rows
unfoldable pub log_words : ℕ → List Record → List ℕ
log_words room rs = flat (map row_of rs) ++ replicate ((room - length rs) * row_long) 0
