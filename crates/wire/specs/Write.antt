-- Writing: a line as a message at the front of a lent output, or refusal 1, then 12. Assumes nothing.
use Rattle.std.specs.Prelude.{ℕ, ◌≡◌, Bool, ◌&&◌, cond, List, ◌++◌, eqb, ltb, length, get_or, drop, Result, Ok, Err}
use Rattle.numbers.specs.Fields.{write_fields, fields_fit, put_fields}
use Rattle.stamp.specs.Stamp.{total}
use Rattle.wire.specs.declared.Refusal.{Refusal}
use Rattle.wire.specs.declared.Refusal.TheVariants.{Bad, Short}
use Rattle.wire.specs.Kinds.{Kind, widths, size_of}

-- how many bytes were written, or why none was
abbrev pub Written : Type 0
Written = Result ℕ Refusal

pub record Output : Type 0 where
  pub answer : Written
  pub bytes : List ℕ

-- what a writer answers and leaves is just this
pub record Meets (o : Output) (answer : Written) (bytes : List ℕ) : Type 0 where
  pub answers : answer ≡ o.answer
  pub leaves : bytes ≡ o.bytes

-- a refusal changes nothing
abbrev pub refuse : Refusal → List ℕ → Output
refuse r out = record { answer = Err r; bytes = out }

-- the line of a message of the kind: its number first, each value in its width, the field rules kept
unfoldable pub writable : Kind → List ℕ → Bool
writable k line = eqb (get_or line 0 0) k.number && (fields_fit (widths k) line && k.rules line)

-- its one writing
unfoldable pub written : Kind → List ℕ → List ℕ
written k line = write_fields (widths k) line

-- refusal 1, then 12; what stands past the message stays
unfoldable pub write_as : Kind → List ℕ → List ℕ → Output
write_as k line out =
    cond (writable k line)
    (cond (ltb (length out) (size_of k)) (refuse Short out)
    (record { answer = Ok (size_of k); bytes = written k line ++ drop (size_of k) out }))
    (refuse Bad out)

-- the last step of every writer, where the number and the rules are in order
unfoldable pub put_line : List ℕ → List ℕ → List ℕ → Output
put_line ws line out =
    cond (fields_fit ws line)
    (cond (ltb (length out) (total ws)) (refuse Short out)
    (record { answer = Ok (total ws); bytes = put_fields ws line out })) (refuse Bad out)
