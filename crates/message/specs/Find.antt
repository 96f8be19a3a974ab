-- The records of one origin as a part of a gossip message: what it holds, and where it starts. Assumes nothing.
use Rattle.std.specs.Prelude.{ℕ, ◌+◌, ◌*◌, ◌≡◌, cond, List, [], eqb, ltb, length, get_or}
use Rattle.std.specs.Borrow.{Bor}
use Rattle.wire.specs.Kinds.{head_long, record_long}
use Rattle.lists.specs.Part.{mid}
use Rattle.lists.specs.Rows.{flat}
use Rattle.lists.specs.Tests.{keep}
use Rattle.message.specs.Message.{record_parts, well_formed}

-- the part that holds record i
unfoldable pub part_at : ℕ → List ℕ → List ℕ
part_at i bytes = mid (head_long + i * record_long) record_long bytes

-- a record's origin is its second byte
unfoldable pub origin_of : List ℕ → ℕ
origin_of part = get_or part 1 0

-- the records of an origin, in order: none in bytes that are refused
unfoldable pub of_origin : ℕ → List ℕ → List (List ℕ)
of_origin o bytes = cond (well_formed bytes) (keep (λ part. eqb (origin_of part) o) (record_parts bytes)) []

unfoldable pub records_of : ℕ → List ℕ → List ℕ
records_of o bytes = flat (of_origin o bytes)

-- how many of some records come before those of origin o, and the byte at which those of origin o and above start
unfoldable pub below : ℕ → List (List ℕ) → ℕ
below o parts = length (keep (λ part. ltb (origin_of part) o) parts)

unfoldable pub place_for : ℕ → List (List ℕ) → ℕ
place_for o parts = head_long + below o parts * record_long

-- where the records of an origin start: with none, at the end
unfoldable pub start_of : ℕ → List ℕ → ℕ
start_of o bytes = cond (eqb (length (of_origin o bytes)) 0) (length bytes) (place_for o (record_parts bytes))

-- what is found is just this: the records of an origin, as the very part of the lent message that starts there
pub record Finds (o : ℕ) (msg part : Bor (List ℕ)) : Type 0 where
  pub holds : part.now ≡ records_of o msg.now
  pub block : part.ref_ptr.0 ≡ msg.ref_ptr.0
  pub starts : part.ref_ptr.1 ≡ msg.ref_ptr.1 + start_of o msg.now
