-- Laws of framing. Assumes nothing.
--     settled       a length or a stop, once told, stays whatever comes
--     more-short    more bytes are asked for only while fewer are read, and never more than five
--     whole_long    a message has at least one byte, and no more than the longest
--     front_tells   nothing past the fifth byte matters
use Rattle.std.specs.Prelude.{ℕ, ◌+◌, ◌*◌, ◌≤◌, ◌<◌, ◌≡◌, refl, Bool, true, false, cond, List, [], ◌∷◌, ◌++◌, T, eqb}
use Rattle.std.specs.Prelude.{ltb, length, take}
use Rattle.std.proofs.Common.{arith, ap, ltb-true, ltb-false, le-ltb}
use Rattle.lists.specs.Part.{mid}
use Rattle.limits.specs.LimitLaws.{log-some}
use Rattle.limits.specs.Limits.{log_room}
use Rattle.wire.specs.Kinds.{body_by, head_long, longest, record_long}
use Rattle.wire.proofs.Laws.{body-few}
use Rattle.std.specs.Prelude.{Result, Ok, Err}
use Rattle.wire.specs.declared.Refusal.{Refusal}
use Rattle.frames.specs.declared.Frame.{Frame}
use Rattle.frames.specs.declared.Frame.TheVariants.{More, Whole, Stop}
use Rattle.wire.specs.Head.{count_in, count-place}
use Rattle.frames.specs.Frame.{expected, count_end, gossip_frame, body_frame, frame_of}

-- the frame is told: no more bytes are asked for
abbrev pub told : Frame → Bool
told (More n) = false
told (Whole n) = true
told Stop = true

-- what a gossip's head tells, by its first five bytes
five-tell : (a b c d e : ℕ) (rest other : List ℕ)
    → gossip_frame (a ∷ b ∷ c ∷ d ∷ e ∷ rest) ≡ gossip_frame (a ∷ b ∷ c ∷ d ∷ e ∷ other)
unfolding gossip_frame mid
five-tell a b c d e rest other =
    rw (
      count-place (a ∷ b ∷ c ∷ d ∷ e ∷ rest),
      count-place (a ∷ b ∷ c ∷ d ∷ e ∷ other),
      le-ltb (length (a ∷ b ∷ c ∷ d ∷ e ∷ rest)) count_end (omega arith),
      le-ltb (length (a ∷ b ∷ c ∷ d ∷ e ∷ other)) count_end (omega arith),
    )

gossip-front : (read : List ℕ) → gossip_frame read ≡ gossip_frame (take count_end read)
gossip-front [] = refl
gossip-front (a ∷ []) = refl
gossip-front (a ∷ b ∷ []) = refl
gossip-front (a ∷ b ∷ c ∷ []) = refl
gossip-front (a ∷ b ∷ c ∷ d ∷ []) = refl
gossip-front (a ∷ b ∷ c ∷ d ∷ e ∷ rest) = five-tell a b c d e rest []

gossip-settled : (read more : List ℕ) → T (told (gossip_frame read)) → gossip_frame (read ++ more) ≡ gossip_frame read
unfolding gossip_frame
gossip-settled [] more t = absurd t
gossip-settled (a ∷ []) more t = absurd t
gossip-settled (a ∷ b ∷ []) more t = absurd t
gossip-settled (a ∷ b ∷ c ∷ []) more t = absurd t
gossip-settled (a ∷ b ∷ c ∷ d ∷ []) more t = absurd t
gossip-settled (a ∷ b ∷ c ∷ d ∷ e ∷ rest) more t = five-tell a b c d e (rest ++ more) rest

pub gossip-short : (read : List ℕ) (n : ℕ) → gossip_frame read ≡ More n → (length read < n) × (n ≤ count_end)
unfolding gossip_frame
gossip-short read n = go (ltb (length read) count_end) refl (ltb log_room (count_in read))
  where
    go : (p : Bool) → ltb (length read) count_end ≡ p → (q : Bool)
        → cond p (More count_end) (cond q Stop (Whole (head_long + count_in read * record_long))) ≡ More n
        → (length read < n) × (n ≤ count_end)
    go true s q e = let z : count_end ≡ n = cc in (omega (arith, ltb-true (length read) count_end s), omega arith)
    go false s true e = let z : ◌≡◌ {A = ℕ} 0 1 = cc in absurd (omega arith)
    go false s false e = let z : ◌≡◌ {A = ℕ} 0 1 = cc in absurd (omega arith)

gossip-long : (read : List ℕ) (n : ℕ) → gossip_frame read ≡ Whole n → (1 ≤ n) × (n ≤ longest)
unfolding gossip_frame
gossip-long read n = go (ltb (length read) count_end) (ltb log_room (count_in read)) refl
  where
    go : (p q : Bool) → ltb log_room (count_in read) ≡ q
        → cond p (More count_end) (cond q Stop (Whole (head_long + count_in read * record_long))) ≡ Whole n
        → (1 ≤ n) × (n ≤ longest)
    go true q s e = let z : ◌≡◌ {A = ℕ} 0 1 = cc in absurd (omega arith)
    go false true s e = let z : ◌≡◌ {A = ℕ} 0 1 = cc in absurd (omega arith)
    go false false s e = let z : head_long + count_in read * record_long ≡ n = cc in
        (omega arith, omega (arith, ltb-false log_room (count_in read) s))

-- the other kinds
pub body-settled : (b : Result ℕ Refusal) (n : ℕ) → body_frame b ≡ More n → ⊥
body-settled (Ok m) n e = let z : ◌≡◌ {A = ℕ} 0 1 = cc in omega arith
body-settled (Err r) n e = let z : ◌≡◌ {A = ℕ} 0 1 = cc in omega arith

body-long : (k n : ℕ) → body_frame (body_by k) ≡ Whole n → (1 ≤ n) × (n ≤ longest)
body-long k n = go (body_by k) refl
  where
    go : (b : Result ℕ Refusal) → body_by k ≡ b → body_frame b ≡ Whole n → (1 ≤ n) × (n ≤ longest)
    go (Ok m) s e = let z : 1 + m ≡ n = cc in (omega arith, omega (arith, log-some, body-few k m s))
    go (Err r) s e = let z : ◌≡◌ {A = ℕ} 0 1 = cc in absurd (omega arith)

-- an unexpected kind, a gossip's head, or another kind
abbrev by_kind : Bool → Bool → Frame → Frame → Frame
by_kind p q gossip other = cond p (cond q gossip other) Stop

pub settled : (read more : List ℕ) (opened : Bool) → T (told (frame_of read opened))
    → frame_of (read ++ more) opened ≡ frame_of read opened
unfolding frame_of
settled [] more opened t = absurd t
settled (k ∷ rest) more opened t = go (expected opened k) (eqb k 1) t
  where
    go : (p q : Bool) → T (told (by_kind p q (gossip_frame (k ∷ rest)) (body_frame (body_by k))))
        → by_kind p q (gossip_frame (k ∷ rest ++ more)) (body_frame (body_by k))
        ≡ by_kind p q (gossip_frame (k ∷ rest)) (body_frame (body_by k))
    go true true s = gossip-settled (k ∷ rest) more s
    go true false s = refl
    go false q s = refl

pub more-short : (read : List ℕ) (opened : Bool) (n : ℕ) → frame_of read opened ≡ More n
    → (length read < n) × (n ≤ count_end)
unfolding frame_of
more-short [] opened n e = let z : 1 ≡ n = cc in (omega arith, omega arith)
more-short (k ∷ rest) opened n e = go (expected opened k) (eqb k 1) e
  where
    go : (p q : Bool) → by_kind p q (gossip_frame (k ∷ rest)) (body_frame (body_by k)) ≡ More n
        → (length (k ∷ rest) < n) × (n ≤ count_end)
    go true true w = gossip-short (k ∷ rest) n w
    go true false w = absurd (body-settled (body_by k) n w)
    go false q w = let z : ◌≡◌ {A = ℕ} 0 1 = cc in absurd (omega arith)

pub whole_long : (read : List ℕ) (opened : Bool) (n : ℕ) → frame_of read opened ≡ Whole n → (1 ≤ n) × (n ≤ longest)
unfolding frame_of
whole_long [] opened n e = let z : ◌≡◌ {A = ℕ} 0 1 = cc in absurd (omega arith)
whole_long (k ∷ rest) opened n e = go (expected opened k) (eqb k 1) e
  where
    go : (p q : Bool) → by_kind p q (gossip_frame (k ∷ rest)) (body_frame (body_by k)) ≡ Whole n → (1 ≤ n)
        × (n ≤ longest)
    go true true w = gossip-long (k ∷ rest) n w
    go true false w = body-long k n w
    go false q w = let z : ◌≡◌ {A = ℕ} 0 1 = cc in absurd (omega arith)

pub front_tells : (read : List ℕ) (opened : Bool) → frame_of read opened ≡ frame_of (take count_end read) opened
unfolding frame_of
front_tells [] opened = refl
front_tells (k ∷ rest) opened =
    ap (λ (f : Frame). by_kind (expected opened k) (eqb k 1) f (body_frame (body_by k))) (gossip-front (k ∷ rest))
