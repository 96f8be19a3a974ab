-- What is new, what may go and what waits, by document 01's own examples: one table, one claim. Assumes nothing.
use Rattle.std.specs.Prelude.{ℕ, ◌-◌, ◌≡◌, refl, Bool, true, ◌∷◌, [], List, ◌++◌, replicate}
use Rattle.lists.specs.Table.{agrees}
use Rattle.lists.specs.Tests.{keep, numbers}
use Rattle.limits.specs.Limits.{word, parts}
use Rattle.stamp.specs.Stamp.{Stamp, stamp_fits}
use Rattle.ledger.specs.Log.{unknowns, waiting_in, remaining}
use Rattle.ledger.specs.Record.{Record, place, stamp_of, knows, is_known, is_applied, is_waiting, everywhere, may_go}
use Rattle.ledger.specs.Record.{record_fits}

-- a stamp by its first parts, and the places of some records: origin, number, one after the other
abbrev pub at : ℕ → ℕ → ℕ → Stamp
at a b c = a ∷ b ∷ c ∷ replicate (parts - 3) 0

abbrev pub places_of : List Record → List ℕ
places_of [] = []
places_of (r ∷ rs) = place r ++ places_of rs

-- record 1 of origin 0 with a label
first : Stamp → Record
first label = record { origin = 0; number = 1; label = label; body = 0 }

-- which numbers a record of origin 1 may have, and which own parts of its label record 2 may have, in a house of three
numbered : ℕ → Bool
numbered q = record_fits (λ w. true) 3 (record { origin = 1; number = q; label = at 0 0 0; body = 0 })

owned : ℕ → Bool
owned x = record_fits (λ w. true) 3 (record { origin = 1; number = 2; label = at 9 x 9; body = 0 })

pub table : List (List ℕ × List ℕ)
table =
    -- a record with stamp (1,5,0) is not new under the known stamp (1,0,0): only the origin's part counts
    (stamp_of (first (at 0 5 0)), at 1 5 0)
    ∷ (places_of (unknowns (at 1 0 0) (first (at 0 5 0) ∷ [])), [])
    ∷ (places_of (unknowns (at 0 5 0) (first (at 0 5 0) ∷ [])), 0 ∷ 1 ∷ [])
    -- N. N is 2: the tap with label (0,9) waits, and stays in the log though both screens know it
    ∷ (places_of (waiting_in (at 1 0 0) (at 1 0 0) (first (at 0 9 0) ∷ [])), 0 ∷ 1 ∷ [])
    ∷ (places_of (remaining (at 1 0 0) (at 1 0 0 ∷ at 1 0 0 ∷ []) (first (at 0 9 0) ∷ [])), 0 ∷ 1 ∷ [])
    -- applied, it stays until every row has it
    ∷ (places_of (remaining (at 1 0 0) (at 1 0 0 ∷ at 0 0 0 ∷ []) (first (at 0 0 0) ∷ [])), 0 ∷ 1 ∷ [])
    ∷ (places_of (remaining (at 1 0 0) (at 1 0 0 ∷ at 1 0 0 ∷ []) (first (at 0 0 0) ∷ [])), [])
    -- a record's number is at least 1, and its label's part for its origin is below it
    ∷ (keep numbered (numbers 0 3), 1 ∷ 2 ∷ [])
    ∷ (keep owned (numbers 0 4), 0 ∷ 1 ∷ [])
    ∷ []

pub records_practised : agrees table ≡ true
unfolding first numbered owned table stamp_of knows is_known is_applied is_waiting everywhere may_go record_fits
    stamp_fits
    word unknowns remaining waiting_in
records_practised = refl
