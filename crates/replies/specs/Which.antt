-- Which of the six replies some bytes are. Assumes nothing.
use Rattle.std.specs.Prelude.{ℕ, cond, List, [], ◌∷◌}
use Rattle.wire.specs.Kinds.{Kind, taken_kind, already_kind, verdict_kind, wait_kind, refusal_kind, gossip_taken_kind}
use Rattle.wire.specs.Read.{readable}

abbrev pub reply_kinds : List Kind
reply_kinds = taken_kind ∷ already_kind ∷ verdict_kind ∷ wait_kind ∷ refusal_kind ∷ gossip_taken_kind ∷ []

-- the number of the kind, among some, of which the bytes are a message; 0 where they are of none
unfoldable pub kind_among : List Kind → List ℕ → ℕ
kind_among [] bytes = 0
kind_among (k ∷ ks) bytes = cond (readable k bytes) k.number (kind_among ks bytes)

-- 5 to 10 for a reply that keeps its field rules, and 0 for all other bytes
unfoldable pub reply_kind : List ℕ → ℕ
reply_kind bytes = kind_among reply_kinds bytes
