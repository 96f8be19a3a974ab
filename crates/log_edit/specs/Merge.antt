-- The log's region with new records merged in from the back, and with records dropped. Assumes nothing.
use Rattle.std.specs.Prelude.{ℕ, ◌+◌, ◌-◌, ◌*◌, ◌≤◌, ◌≡◌, not, ◌≢◌, List, ◌++◌, map, T, length, take, drop, replicate}
use Rattle.lists.specs.TestLaws.{◌∈◌}
use Rattle.lists.specs.Order.{key_before, rising}
use Rattle.lists.specs.Part.{mid}
use Rattle.lists.specs.Rows.{flat}
use Rattle.lists.specs.Tests.{keep}
use Rattle.stamp.specs.Stamp.{Stamp}
use Rattle.ledger.specs.Record.{Record, place}
use Rattle.ledger.specs.Log.{gathered}
use Rattle.book_log.specs.Lowest.{goes_by}
use Rattle.book_log.specs.Region.{row_long, record_at, row_of, records_at}
use Rattle.book_log.specs.Walk.{records_from}

-- the records that stand after x, and the others
unfoldable pub after_of : Record → List Record → List Record
after_of x rs = keep (λ r. key_before (place x) (place r)) rs

unfoldable pub before_of : Record → List Record → List Record
before_of x rs = keep (λ r. not (key_before (place x) (place r))) rs

-- records that may be merged into a log: both rise, and no place of the one is a place of the other
pub record Fresh (new rs : List Record) : Type 0 where
  pub order : T (rising place new)
  pub sorted : T (rising place rs)
  pub apart : (x r : Record) → x ∈ new → r ∈ rs → place x ≢ place r

-- a region whose first i rows get `new` merged in, over a gap of so many rows behind them; what stands past the gap
-- stays
unfoldable pub merged : List Record → ℕ → ℕ → List ℕ → List ℕ
merged new i gap l = flat (map row_of (gathered new (records_at i l))) ++ drop ((i + gap) * row_long) l

-- of the first i rows the first n do not stand after a row, and the others do
pub record Parted (i : ℕ) (row l : List ℕ) (n : ℕ) : Type 0 where
  pub fewer : n ≤ i
  pub before : records_at n l ≡ before_of (record_at row) (records_at i l)
  pub after : records_from i l n (n * row_long) ≡ after_of (record_at row) (records_at i l)

-- the words from a place up to another moved up; what stood below them and past their new place is as it was
pub record Shifted (from to by : ℕ) (old new : List ℕ) : Type 0 where
  pub long : length new ≡ length old
  pub below : take from new ≡ take from old
  pub above : drop (from + by) new ≡ mid from (to - from) old ++ drop (to + by) old

-- a row slid in: of the first i rows n stay, the others stand behind it, up to what stood past the gap
pub record Slid (i gap : ℕ) (row old new : List ℕ) (n : ℕ) : Type 0 where
  pub fewer : n ≤ i
  pub long : length new ≡ length old
  pub stays : records_at n new ≡ before_of (record_at row) (records_at i old)
  pub above : drop ((n + (gap - 1)) * row_long) new
      ≡ row ++ (flat (map row_of (after_of (record_at row) (records_at i old))) ++ drop ((i + gap) * row_long) old)

-- the records that stay when those that may go are dropped
unfoldable pub stayers : Stamp → Stamp → List Record → List Record
stayers ready low rs = keep (λ r. not (goes_by ready low r)) rs

-- a region whose first n rows are those that stay, closed up, and zeros for the others
unfoldable pub dropped : Stamp → Stamp → ℕ → List ℕ → List ℕ
dropped ready low n l =
    flat (map row_of (stayers ready low (records_at n l)))
    ++ (replicate ((n - length (stayers ready low (records_at n l))) * row_long) 0 ++ drop (n * row_long) l)

-- rows dropped: the region is as said, and k of the first n records stay
pub record Closed (ready low : Stamp) (n : ℕ) (old new : List ℕ) (k : ℕ) : Type 0 where
  pub words : new ≡ dropped ready low n old
  pub count : k ≡ length (stayers ready low (records_at n old))
  pub fewer : k ≤ n
