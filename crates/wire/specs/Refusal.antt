-- The table of refusals: the number of each, and the refusal of a number. Assumes nothing.
use Rattle.std.specs.Prelude.{ℕ, ◌<◌, ◌≡◌, refl, cond, eqb, List, [], ◌∷◌}
use Rattle.std.proofs.Common.{arith}
use Rattle.wire.specs.declared.Refusal.{Refusal}
use Rattle.wire.specs.declared.Refusal.TheVariants.{Bad, WrongHouse, UnknownLabel, Old, Crossed, Ahead, Spent, Gap}
use Rattle.wire.specs.declared.Refusal.TheVariants.{NoRoom, Unsound, Short}

-- ten is not used
abbrev pub table_number : Refusal → ℕ
table_number Bad = 1
table_number WrongHouse = 2
table_number UnknownLabel = 3
table_number Old = 4
table_number Crossed = 5
table_number Ahead = 6
table_number Spent = 7
table_number Gap = 8
table_number NoRoom = 9
table_number Unsound = 11
table_number Short = 12

-- the refusal that has a number of the table
abbrev numbered_in : List Refusal → ℕ → Refusal
numbered_in [] k = Bad
numbered_in (r ∷ rs) k = cond (eqb k (table_number r)) r (numbered_in rs k)

abbrev pub refusal_numbered : ℕ → Refusal
refusal_numbered k =
    numbered_in (WrongHouse ∷ UnknownLabel ∷ Old ∷ Crossed ∷ Ahead ∷ Spent ∷ Gap ∷ NoRoom ∷ Unsound ∷ Short ∷ []) k

-- a refusal is settled by its number
pub numbered_back : (r : Refusal) → refusal_numbered (table_number r) ≡ r
numbered_back Bad = refl
numbered_back WrongHouse = refl
numbered_back UnknownLabel = refl
numbered_back Old = refl
numbered_back Crossed = refl
numbered_back Ahead = refl
numbered_back Spent = refl
numbered_back Gap = refl
numbered_back NoRoom = refl
numbered_back Unsound = refl
numbered_back Short = refl

-- no refusal is numbered zero
pub number_pos : (r : Refusal) → 0 < table_number r
number_pos Bad = omega arith
number_pos WrongHouse = omega arith
number_pos UnknownLabel = omega arith
number_pos Old = omega arith
number_pos Crossed = omega arith
number_pos Ahead = omega arith
number_pos Spent = omega arith
number_pos Gap = omega arith
number_pos NoRoom = omega arith
number_pos Unsound = omega arith
number_pos Short = omega arith
