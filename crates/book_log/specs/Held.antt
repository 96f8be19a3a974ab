-- No number missing, found in one pass: a stamp that climbs by each record that is the next of its origin. Assumes
-- nothing.
use Rattle.std.specs.Prelude.{ℕ, suc, Bool, ◌||◌, cond, List, leb, eqb, set, fold}
use Rattle.lists.specs.Tests.{all_below}
use Rattle.stamp.specs.Stamp.{Stamp, part}
use Rattle.ledger.specs.Record.{Record, has}

-- every number above the start and up to the end is there, for each of the first n origins
unfoldable pub holds_all : ℕ → Stamp → Stamp → List Record → Bool
holds_all n start end rs = all_below n
    (λ k. all_below (part end k) (λ q. has rs k (suc q) || leb (suc q) (part start k)))

-- q if it is the next number, else what was reached
abbrev pub raised : ℕ → ℕ → ℕ
raised reached q = cond (eqb q (suc reached)) q reached

abbrev pub climbed : Stamp → Record → Stamp
climbed s r = set s r.origin (raised (part s r.origin) r.number)

unfoldable pub climb : Stamp → List Record → Stamp
climb s rs = fold climbed s rs
