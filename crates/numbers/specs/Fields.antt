-- A row of numbers as bytes: a field is a number in so many bytes, and a list of widths says how many. Assumes nothing.
use Rattle.std.specs.Prelude.{ℕ, ◌^◌, Bool, true, false, ◌&&◌, List, [], ◌∷◌, ◌++◌, ltb, take, drop}
use Rattle.stamp.specs.Stamp.{total}
use Rattle.numbers.specs.Number.{number_of, bytes_of}

-- the numbers that the bytes hold, one for each width
abbrev pub read_fields : List ℕ → List ℕ → List ℕ
read_fields [] bytes = []
read_fields (w ∷ ws) bytes = number_of (take w bytes) ∷ read_fields ws (drop w bytes)

-- the bytes of the numbers, each in its width
abbrev pub write_fields : List ℕ → List ℕ → List ℕ
write_fields [] vs = []
write_fields (w ∷ ws) [] = []
write_fields (w ∷ ws) (v ∷ vs) = bytes_of w v ++ write_fields ws vs

-- as many numbers as widths, each small enough for its own
abbrev pub fields_fit : List ℕ → List ℕ → Bool
fields_fit [] [] = true
fields_fit [] (v ∷ vs) = false
fields_fit (w ∷ ws) [] = false
fields_fit (w ∷ ws) (v ∷ vs) = ltb v (256 ^ w) && fields_fit ws vs

-- the numbers written at the front of the bytes, the rest of them left
unfoldable pub put_fields : List ℕ → List ℕ → List ℕ → List ℕ
put_fields ws vs out = write_fields ws vs ++ drop (total ws) out
