-- What the head of a gossip message says, of bytes that may go on behind it or not reach its end. Assumes nothing.
--     count-place   its count is the two bytes from the fourth on
use Rattle.std.specs.Prelude.{ℕ, ◌-◌, ◌≡◌, refl, List, [], ◌∷◌, get_or, take}
use Rattle.std.proofs.Common.{arith, ap, take-take}
use Rattle.lists.specs.Part.{mid}
use Rattle.stamp.specs.Stamp.{Stamp}
use Rattle.numbers.specs.Number.{number_of}
use Rattle.wire.specs.Kinds.{head_kind, head_long, stamp_at}
use Rattle.wire.specs.Read.{line_of}

unfoldable pub head_line : List ℕ → List ℕ
head_line bytes = line_of head_kind (take head_long bytes)

abbrev pub sender_in : List ℕ → ℕ
sender_in bytes = get_or (head_line bytes) 1 0

abbrev pub screens_in : List ℕ → ℕ
screens_in bytes = get_or (head_line bytes) 2 0

abbrev pub count_in : List ℕ → ℕ
count_in bytes = get_or (head_line bytes) 3 0

abbrev pub stamp_in : List ℕ → Stamp
stamp_in bytes = stamp_at 4 (head_line bytes)

pub count-place : (bytes : List ℕ) → count_in bytes ≡ number_of (mid 3 2 bytes)
unfolding head_line line_of head_kind mid
count-place [] = refl
count-place (a ∷ []) = refl
count-place (a ∷ b ∷ []) = refl
count-place (a ∷ b ∷ c ∷ rest) = ap number_of (take-take 2 (head_long - 3) rest (omega arith))
