-- Laws: the table of requests has the kinds and rooms of the wire's. Assumes nothing.
use Rattle.std.specs.Prelude.{ℕ, ◌≡◌, refl, Bool, true, false, cond, List, [], ◌∷◌, map, eqb, Option, None, Some}
use Rattle.std.specs.Prelude.{unwrap_or}
use Rattle.std.proofs.Common.{arith, ap, ◌∙◌}
use Rattle.wire.specs.Requests.{request_table, room_in, reply_room, refusal_long}
use Rattle.answer.specs.Answer.{Line, lines, kind_in, room_by, room_for}

abbrev told : Line → ℕ × ℕ
told l = (l.number, l.room)

pub same-table : map told lines ≡ request_table
same-table = refl

-- a line has room for something
abbrev Roomy : List Line → Type 0
Roomy [] = Unit {0}
Roomy (l ∷ ls) = (l.room ≡ 0 → ⊥) × Roomy ls

roomy : Roomy lines
roomy = (λ e. omega arith, (λ e. omega arith, (λ e. omega arith, (λ e. omega arith, tt))))

-- what is no request has room for a refusal, a request the room of the wire's table
room-told : (ls : List Line) (k : ℕ) → room_by ls k ≡ unwrap_or (room_in (map told ls) k) refusal_long
room-told [] k = refl
room-told (l ∷ ls) k = go (eqb k l.number) (room-told ls k)
  where
    go : (c : Bool) → room_by ls k ≡ unwrap_or (room_in (map told ls) k) refusal_long
        → cond c l.room (room_by ls k) ≡ unwrap_or (cond c (Some l.room) (room_in (map told ls) k)) refusal_long
    go true rest = refl
    go false rest = rest

pub room-table : (bytes : List ℕ) → room_for bytes ≡ unwrap_or (reply_room (kind_in bytes)) refusal_long
unfolding reply_room room_for
room-table bytes = room-told lines (kind_in bytes)

pub room-none : (bytes : List ℕ) → reply_room (kind_in bytes) ≡ None → room_for bytes ≡ refusal_long
room-none bytes e = room-table bytes ∙ ap (λ (o : Option ℕ). unwrap_or o refusal_long) e

pub room-some : (bytes : List ℕ) (n : ℕ) → reply_room (kind_in bytes) ≡ Some n → room_for bytes ≡ n
room-some bytes n e = room-table bytes ∙ ap (λ (o : Option ℕ). unwrap_or o refusal_long) e
