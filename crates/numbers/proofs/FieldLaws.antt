-- Laws of a row of fields, once over the list of widths: reading gives back what was written, and writing what was
-- read. Assumes nothing.
use Rattle.std.specs.Prelude.{ℕ, suc, ◌+◌, ◌<◌, ◌^◌, ◌≡◌, refl, List, [], ◌∷◌, ◌++◌, T, ltb, length, take, drop}
use Rattle.std.proofs.Common.{arith, ap, ap₂, subst, ◌∙◌, ltb→lt, lt→ltb, length-append, length-drop, take-append-drop}
use Rattle.std.proofs.Common.{take_at, drop_at, length-take-le}
use Rattle.std.proofs.lemmas.List.{take-append-le, drop-append-le}
use Rattle.lists.specs.TestLaws.{and_l, and_r, both}
use Rattle.stamp.specs.Stamp.{total}
use Rattle.numbers.specs.Number.{number_of, bytes_of, Bytes}
use Rattle.numbers.specs.NumberLaws.{length-bytes, number-bytes, bytes-number, number_small, bytes_take}
use Rattle.numbers.specs.NumberLaws.{bytes_drop, bytes_append, bytes_are}
use Rattle.numbers.specs.Fields.{read_fields, write_fields, fields_fit}

pub length-read : (ws bytes : List ℕ) → length (read_fields ws bytes) ≡ length ws
length-read [] bytes = refl
length-read (w ∷ ws) bytes = ap suc (length-read ws (drop w bytes))

module _ (w : ℕ) (ws bytes : List ℕ) (long : length bytes ≡ w + total ws) where
  first : length (take w bytes) ≡ w
  first = length-take-le w bytes (omega arith)

  others : length (drop w bytes) ≡ total ws
  others = simp length-drop (omega arith)

-- the numbers read fit their fields
pub fit-read : (ws bytes : List ℕ) → Bytes bytes → length bytes ≡ total ws → T (fields_fit ws (read_fields ws bytes))
fit-read [] bytes h e = tt
fit-read (w ∷ ws) bytes h e =
    both (ltb (number_of (take w bytes)) (256 ^ w)) (fields_fit ws (read_fields ws (drop w bytes)))
    (lt→ltb (number_of (take w bytes)) (256 ^ w)
    (subst (λ (k : ℕ). number_of (take w bytes) < 256 ^ k) (first w ws bytes e)
    (number_small (take w bytes) (bytes_take w bytes h))))
    (fit-read ws (drop w bytes) (bytes_drop w bytes h) (others w ws bytes e))

pub write_read : (ws bytes : List ℕ) → Bytes bytes → length bytes ≡ total ws
    → write_fields ws (read_fields ws bytes) ≡ bytes
write_read [] [] h e = refl
write_read [] (x ∷ bytes) h e = absurd (omega arith)
write_read (w ∷ ws) bytes h e =
    ap₂ ◌++◌ (subst (λ (k : ℕ). bytes_of k (number_of (take w bytes)) ≡ take w bytes) (first w ws bytes e)
    (bytes-number (take w bytes) (bytes_take w bytes h)))
    (write_read ws (drop w bytes) (bytes_drop w bytes h) (others w ws bytes e))
    ∙ take-append-drop w bytes

pub length_write : (ws vs : List ℕ) → T (fields_fit ws vs) → length (write_fields ws vs) ≡ total ws
length_write [] vs h = refl
length_write (w ∷ ws) [] h = absurd h
length_write (w ∷ ws) (v ∷ vs) h =
    length-append (bytes_of w v) (write_fields ws vs)
    ∙ ap₂ ◌+◌ (length-bytes w v) (length_write ws vs (and_r (ltb v (256 ^ w)) (fields_fit ws vs) h))

pub read_write : (ws vs : List ℕ) → T (fields_fit ws vs) → read_fields ws (write_fields ws vs) ≡ vs
read_write [] [] h = refl
read_write [] (v ∷ vs) h = absurd h
read_write (w ∷ ws) [] h = absurd h
read_write (w ∷ ws) (v ∷ vs) h =
    ap₂ ◌∷◌
    (ap number_of (take_at (bytes_of w v) (write_fields ws vs) w (length-bytes w v))
    ∙ number-bytes w v (ltb→lt v (256 ^ w) (and_l (ltb v (256 ^ w)) (fields_fit ws vs) h)))
    (ap (read_fields ws) (drop_at (bytes_of w v) (write_fields ws vs) w (length-bytes w v))
    ∙ read_write ws vs (and_r (ltb v (256 ^ w)) (fields_fit ws vs) h))

pub bytes_write : (ws vs : List ℕ) → Bytes (write_fields ws vs)
unfolding Bytes
bytes_write [] vs = tt
bytes_write (w ∷ ws) [] = tt
bytes_write (w ∷ ws) (v ∷ vs) = bytes_append (bytes_of w v) (write_fields ws vs) (bytes_are w v) (bytes_write ws vs)

-- what stands past the row is not read
pub read-front : (ws front rest : List ℕ) → length front ≡ total ws
    → read_fields ws (front ++ rest) ≡ read_fields ws front
read-front [] front rest e = refl
read-front (w ∷ ws) front rest e =
    ap₂ ◌∷◌ (ap number_of (take-append-le w front rest (omega arith)))
    (ap (read_fields ws) (drop-append-le w front rest (omega arith))
    ∙ read-front ws (drop w front) rest (others w ws front e))
