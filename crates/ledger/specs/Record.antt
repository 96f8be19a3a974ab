-- Records, and when a stamp knows and applies one. A body is one word: what it says is not the ledger's business.
-- Assumes nothing.
use Rattle.std.specs.Prelude.{ℕ, Bool, not, ◌&&◌, List, [], ◌∷◌, ◌++◌, leb, ltb, eqb}
use Rattle.lists.specs.Tests.{all, every, exists}
use Rattle.stamp.specs.Stamp.{Stamp, part, at_most, replace, stamp_fits}

pub record Record : Type 0 where
  pub origin : ℕ
  pub number : ℕ
  pub label : Stamp
  pub body : ℕ

-- its stamp is its label with the origin's part replaced by the number
unfoldable pub stamp_of : Record → Stamp
stamp_of r = replace r.label r.origin r.number

-- the order of the log: by origin, then number
abbrev pub place : Record → List ℕ
place r = r.origin ∷ r.number ∷ []

-- known: number at most the known stamp's part for the origin
unfoldable pub knows : Stamp → ℕ → ℕ → Bool
knows s k q = leb q (part s k)

unfoldable pub is_known : Stamp → Record → Bool
is_known s r = knows s r.origin r.number

-- applied, under the ready stamp: it has the record's number and covers its label
unfoldable pub is_applied : Stamp → Record → Bool
is_applied y r = is_known y r && at_most r.label y

-- waiting: known under the known stamp, not applied under the ready one
unfoldable pub is_waiting : Stamp → Stamp → Record → Bool
is_waiting s y r = is_known s r && not (is_applied y r)

-- known everywhere: every table row has it
unfoldable pub everywhere : List Stamp → ℕ → ℕ → Bool
everywhere rows k q = every (λ row. knows row k q) rows

-- both applied and known everywhere: it may leave the log
unfoldable pub may_go : Stamp → List Stamp → Record → Bool
may_go y rows r = is_applied y r && everywhere rows r.origin r.number

-- a list of records has number q of origin k
unfoldable pub has : List Record → ℕ → ℕ → Bool
has rs k q = exists (λ r. eqb r.origin k && eqb r.number q) rs

-- the field rules of a record in a house of n screens: those of its origin k, number q and label, and `body_fits`, the
-- rule of its body
abbrev pub label_rules : ℕ → ℕ → ℕ → Stamp → List Bool
label_rules n k q label = ltb k n ∷ leb 1 q ∷ ltb (part label k) q ∷ stamp_fits n label ∷ []

abbrev pub record_rules : (ℕ → Bool) → ℕ → Record → List Bool
record_rules body_fits n r = label_rules n r.origin r.number r.label ++ body_fits r.body ∷ []

unfoldable pub record_fits : (ℕ → Bool) → ℕ → Record → Bool
record_fits body_fits n r = all (record_rules body_fits n r)
