-- Framing at its edges: which kinds are expected, and what the next message is; one table, one claim. Assumes nothing.
use Rattle.std.specs.Prelude.{ℕ, ◌≡◌, refl, true, false, List, [], ◌∷◌, ◌++◌, replicate}
use Rattle.lists.specs.Part.{mid}
use Rattle.lists.specs.Table.{agrees}
use Rattle.lists.specs.Tests.{numbers, keep}
use Rattle.limits.specs.Limits.{log_room}
use Rattle.numbers.specs.Number.{number_from}
use Rattle.wire.specs.Head.{head_line}
use Rattle.wire.specs.Kinds.{body_by, head_kind}
use Rattle.wire.specs.Read.{line_of}
use Rattle.wire.specs.Requests.{reply_room, is_request}
use Rattle.frames.specs.declared.Frame.{Frame}
use Rattle.frames.specs.declared.Frame.TheVariants.{More, Whole, Stop}
use Rattle.frames.specs.Frame.{expected, gossip_frame, frame_of}
use Rattle.frames.specs.Next.{kinds_stand, next_of}

-- the message's length; 0 and how many bytes are needed to tell; or what is written where reading stops
shown : Frame → List ℕ
shown f = elim f [ More n ↦ 0 ∷ n ∷ [] | Whole n ↦ n ∷ [] | Stop ↦ 9 ∷ 1 ∷ [] ]

-- a gossip message of one record, which starts with a byte of kind and has so many bytes after it
gossip : ℕ → ℕ → List ℕ
gossip kind n = 1 ∷ 0 ∷ 2 ∷ 0 ∷ 1 ∷ replicate 32 0 ++ (kind ∷ replicate n 0)

pub table : List (List ℕ × List ℕ)
table =
    -- one kind 11, then kinds 1, 3, 4 and 12: no lone record, no second kind 11, no reply
    (keep (expected false) (numbers 0 256), 11 ∷ [])
    ∷ (keep (expected true) (numbers 0 256), 1 ∷ 3 ∷ 4 ∷ 12 ∷ [])
    ∷ (shown (frame_of [] false), 0 ∷ 1 ∷ [])
    ∷ (shown (frame_of [] true), 0 ∷ 1 ∷ [])
    ∷ (shown (frame_of (11 ∷ []) false), 3 ∷ [])
    ∷ (shown (frame_of (12 ∷ []) false), 9 ∷ 1 ∷ [])
    ∷ (shown (frame_of (11 ∷ []) true), 9 ∷ 1 ∷ [])
    ∷ (shown (frame_of (2 ∷ []) true), 9 ∷ 1 ∷ [])
    ∷ (shown (frame_of (9 ∷ 1 ∷ []) true), 9 ∷ 1 ∷ [])
    ∷ (shown (frame_of (3 ∷ []) true), 42 ∷ [])
    ∷ (shown (frame_of (4 ∷ []) true), 34 ∷ [])
    ∷ (shown (frame_of (12 ∷ []) true), 1 ∷ [])
    -- a count of at most 256, told by the fifth byte, whatever else the head says
    ∷ (shown (frame_of (1 ∷ 0 ∷ 2 ∷ 1 ∷ []) true), 0 ∷ 5 ∷ [])
    ∷ (shown (frame_of (1 ∷ 9 ∷ 9 ∷ 1 ∷ 0 ∷ []) true), 12069 ∷ [])
    ∷ (shown (frame_of (1 ∷ 9 ∷ 9 ∷ 1 ∷ 1 ∷ []) true), 9 ∷ 1 ∷ [])
    -- a record's kind is told by its byte
    ∷ (shown (next_of (gossip 3 0) true), 9 ∷ 1 ∷ [])
    -- all of it is there, and each record has its kind; what comes after it is left
    ∷ (shown (next_of (gossip 2 45) true), 0 ∷ 84 ∷ [])
    ∷ (shown (next_of (gossip 2 46) true), 84 ∷ [])
    ∷ (shown (next_of (gossip 2 50) true), 84 ∷ [])
    ∷ (shown (next_of (gossip 3 46) true), 9 ∷ 1 ∷ [])
    ∷ []

pub framing_practised : agrees table ≡ true
unfolding shown gossip table mid number_from log_room body_by reply_room is_request expected head_line line_of head_kind
    gossip_frame frame_of kinds_stand next_of
framing_practised = refl
