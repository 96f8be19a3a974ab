-- Reading: what the bytes say as a message of a kind, or refusal 1. Assumes nothing.
use Rattle.std.specs.Prelude.{ℕ, ◌-◌, ◌<◌, ◌≡◌, Bool, ◌&&◌, cond, List, T, leb, Result, Ok, Err}
use Rattle.lists.specs.Tests.{every}
use Rattle.stamp.specs.Stamp.{total}
use Rattle.numbers.specs.Fields.{read_fields}
use Rattle.wire.specs.declared.Refusal.{Refusal}
use Rattle.wire.specs.declared.Refusal.TheVariants.{Bad}
use Rattle.wire.specs.Says.{Said}
use Rattle.wire.specs.Kinds.{Kind, widths, body_by, shaped}

-- the line that the bytes hold
unfoldable pub line_of : Kind → List ℕ → List ℕ
line_of k bytes = read_fields (widths k) bytes

-- widths of a kind's line: the byte of kind and then its body, none of more than eight bytes
pub record IsWidths (k : ℕ) (ws : List ℕ) : Type 0 where
  pub long : body_by k ≡ Ok (total ws - 1)
  pub some : 0 < total ws
  pub narrow : T (every (λ w. leb w 8) ws)

-- the line that the bytes hold by some widths, or refusal 1 where they are not of the kind and of its length
unfoldable pub line_as : ℕ → List ℕ → List ℕ → Result (List ℕ) Refusal
line_as k ws bytes = cond (shaped k bytes) (Ok (read_fields ws bytes)) (Err Bad)

-- the bytes are a message of the kind, and keep its field rules
unfoldable pub readable : Kind → List ℕ → Bool
readable k bytes = shaped k.number bytes && k.rules (line_of k bytes)

unfoldable pub read_as : Kind → List ℕ → Result Said Refusal
read_as k bytes = cond (readable k bytes) (Ok (k.said (line_of k bytes))) (Err Bad)
