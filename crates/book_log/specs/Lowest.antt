-- The lowest stamp of a table, the smaller in each part: it alone says what is known everywhere and what may go.
-- Assumes nothing.
use Rattle.std.specs.Prelude.{min, Bool, ◌&&◌, List, [], ◌∷◌, fold}
use Rattle.std.proofs.Math.Dec.{leb}
use Rattle.stamp.specs.Stamp.{Stamp, part}
use Rattle.ledger.specs.Record.{Record, is_applied}

-- the smaller in each part
abbrev pub meet : Stamp → Stamp → Stamp
meet [] b = []
meet (x ∷ a) [] = []
meet (x ∷ a) (y ∷ b) = min x y ∷ meet a b

-- a stamp met with each row
unfoldable pub lowest_from : Stamp → List Stamp → Stamp
lowest_from s rows = fold meet s rows

-- applied under the ready stamp, and at most the lowest stamp's part
unfoldable pub goes_by : Stamp → Stamp → Record → Bool
goes_by y low r = is_applied y r && leb r.number (part low r.origin)
