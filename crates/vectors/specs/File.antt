-- The file of vectors: one byte of name length, the name, and twice four bytes of length and so many bytes; a byte 0
-- ends it. Assumes nothing.
use Rattle.std.specs.Prelude.{ℕ, ◌+◌, ◌-◌, ◌≤◌, cond, List, eqb, ltb, length, Option, Some, None, Result, Ok, Err}
use Rattle.lists.specs.Part.{mid}
use Rattle.numbers.specs.Number.{number_of}
use Rattle.vectors.specs.declared.file.Part.{Part}
use Rattle.vectors.specs.declared.file.Vector.{Vector}
use Rattle.vectors.specs.declared.file.Cut.{Cut}

-- room for the whole file
abbrev pub file_room : ℕ
file_room = 900_001

-- a part lies within the file
abbrev pub Inside : Part → List ℕ → Type 0
Inside p file = (p.start ≤ p.end) × (p.end ≤ length file)

abbrev pub longest_field : ℕ
longest_field = 60_000

-- a field's bytes, or that the file ends inside it or the field is too long
abbrev pub Field : Type 0
Field = Result Part Cut

abbrev pub broken : Field
broken = Err (record {})

-- the field whose length is the number of so many bytes at a place
abbrev pub field_of : ℕ → ℕ → ℕ → Field
field_of start long rest =
    cond (ltb longest_field long) broken
    (cond (ltb rest long) broken (Ok (record { start = start; end = start + long })))

unfoldable pub field_at : ℕ → ℕ → List ℕ → Field
field_at at width file =
    cond (ltb (length file - at) width) broken
    (field_of (at + width) (number_of (mid at width file)) (length file - (at + width)))

-- a vector's fields; or none where the byte 0 ends the file; or that there is neither
abbrev pub NextVector : Type 0
NextVector = Result (Option Vector) Cut

abbrev pub cut : NextVector
cut = Err (record {})

-- what a field leads to
abbrev pub on_field : Field → (Part → NextVector) → NextVector
on_field (Ok p) next = next p
on_field (Err e) next = Err e

unfoldable pub entry_at : ℕ → List ℕ → NextVector
entry_at at file =
    on_field (field_at at 1 file) (λ name.
    cond (eqb name.start name.end) (Ok None)
    (on_field (field_at name.end 4 file) (λ input.
    on_field (field_at input.end 4 file) (λ output.
    Ok (Some (record { name = name; input = input; output = output }))))))
