-- The requests that a screen takes once its book is open: each kind, and how long the longest reply to it is. Assumes
-- nothing.
use Rattle.std.specs.Prelude.{ℕ, ◌+◌, Bool, cond, List, [], ◌∷◌, eqb, Option, Some, None, is_some}
use Rattle.stamp.specs.Stamp.{total}
use Rattle.limits.specs.KindNumbers.{head_number, tap_number, question_number, send_number}
use Rattle.wire.specs.Kinds.{longest, gossip_taken_body}
use Rattle.wire.specs.Kinds.{taken_body, verdict_body, wait_body, refusal_body}

-- how long replies are: gossip taken; taken, and already; a verdict, the longest reply to a question, and wait; a
-- refusal
abbrev pub gossip_long : ℕ
gossip_long = 1 + total gossip_taken_body

abbrev pub tap_long : ℕ
tap_long = 1 + total taken_body

abbrev pub question_long : ℕ
question_long = 1 + total verdict_body

abbrev pub wait_long : ℕ
wait_long = 1 + total wait_body

abbrev pub refusal_long : ℕ
refusal_long = 1 + total refusal_body

abbrev pub request_table : List (ℕ × ℕ)
request_table =
    (head_number, gossip_long) ∷ (tap_number, tap_long) ∷ (question_number, question_long) ∷ (send_number, longest) ∷ []

abbrev pub room_in : List (ℕ × ℕ) → ℕ → Option ℕ
room_in [] k = None
room_in (l ∷ t) k = cond (eqb k l.0) (Some l.1) (room_in t k)

-- the room that is always enough for the reply to a request of the kind: none where the kind is no request's
unfoldable pub reply_room : ℕ → Option ℕ
reply_room k = room_in request_table k

unfoldable pub is_request : ℕ → Bool
is_request k = is_some (reply_room k)
