-- What a test of the log's rows says of its records, and a row of a table whose rows fit. Assumes nothing.
use Prim.Native.Nat.{ℕ, ◌<◌}
use mathlib.Core.Path.{◌≡◌}
use mathlib.Core.Bool.{Bool}
use mathlib.Core.List.{List, []}
use lib.Dec.{T}
use lib.ListN.{length, get_or}
use Rattle.std.proofs.lemmas.List.Folds.{list_all-map}
use Rattle.lists.specs.TestLaws.{every-get_or}
use Rattle.lists.specs.Tests.{every}
use Rattle.stamp.specs.Stamp.{Stamp, stamp_fits}
use Rattle.ledger.specs.Record.{Record}
use Rattle.tally.specs.Tap.{tap_of}
use Rattle.taps.specs.Region.{word_taps}
use Rattle.std.proofs.lemmas.List.{length-map}
use Rattle.book_log.specs.Region.{record_at, records_of}

pub every_rows : (p : Record → Bool) (rs : List (List ℕ)) → every p (records_of rs) ≡ every (λ r. p (record_at r)) rs
every_rows p rs = list_all-map p record_at rs

pub taps_long : (ws : List ℕ) → length (word_taps ws) ≡ length ws
taps_long ws = length-map ws tap_of

pub row_fits : (n i : ℕ) (table : List Stamp) → i < length table → T (every (stamp_fits n) table)
    → T (stamp_fits n (get_or table i []))
row_fits n i table h t = every-get_or (stamp_fits n) table [] t i h
