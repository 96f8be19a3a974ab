-- One turn of the pass over the records: each is compared with the one before it. Assumes nothing.
use Prim.Native.Nat.{ℕ, zero, suc, ◌+◌, ◌≤◌, ◌<◌}
use native.Mathlib.Omega.{arith}
use mathlib.Core.Path.{◌≡◌, refl, sym, ap, subst, ◌∙◌}
use mathlib.Core.Bool.{Bool, true, false, ◌&&◌, and_assoc}
use mathlib.Core.List.{List, [], ◌∷◌, map}
use lib.Dec.{T, ltb}
use lib.ListN.{length, drop, drop_of_length-le}
use lib.Seq.{take_all}
use borrow.Author.Tests.{lt-ltb}
use Rattle.lists.specs.TestLaws.{is_true}
use Rattle.lists.proofs.ElementLaws.{regroup}
use Rattle.lists.proofs.Neighbours.{rising-next}
use Rattle.lists.specs.RowLaws.{taken_chunks}
use Rattle.lists.specs.Order.{key_before, rising}
use Rattle.lists.specs.Tests.{every}
use Rattle.stamp.specs.Stamp.{Stamp}
use Rattle.stamp.specs.declared.Parts.{Parts}
use Rattle.tally.specs.declared.Tap.{Tap}
use Rattle.tally.specs.Body.{body_fits}
use Rattle.ledger.specs.Record.{Record, place}
use Rattle.ledger.proofs.RecordLaws.{obeys}
use Rattle.wire.specs.Kinds.{Kind, record_kind, head_long, record_long}
use Rattle.wire.proofs.Laws.{lawful_record}
use Rattle.wire.specs.Read.{readable, read_as}
use Rattle.wire.proofs.ReadLaws.{told, told_line, unread}
use Rattle.std.specs.Prelude.{Ok, Err}
use Rattle.wire.specs.declared.Refusal.{Refusal}
use Rattle.wire.specs.Says.{Said}
use Rattle.wire.specs.Says as said
use Rattle.message.specs.Message.{parts_of, record_from, in_order}
use Rattle.message.specs.Find.{part_at, origin_of, below}
use Rattle.std.specs.Prelude.{◌/◌, ◌*◌, ◌-◌, take, get_or, nat_lt, count_by}
use Rattle.std.specs.Simd.{first_chunks}
use Rattle.std.proofs.lemmas.List.Sums.{length-filter, count_by-le-length}
use Rattle.std.proofs.Common.{length-drop}
use Rattle.lists.specs.Rows.{rows}
use Rattle.message.specs.Parts.{length-parts, next-part, part-rules}

-- the parts that are left keep their rules and rise from the last place on
unfoldable pub rises_from : Kind → List ℕ → List (List ℕ) → Bool
rises_from k last [] = true
rises_from k last (p ∷ ps) =
    readable k p && (key_before last (place (record_from k p)) && rises_from k (place (record_from k p)) ps)

neighbours : (k : Kind) (x : Record) (ps : List (List ℕ))
    → rises_from k (place x) ps ≡ (every (readable k) ps && rising place (x ∷ map (record_from k) ps))
unfolding rises_from
neighbours k x [] = refl
neighbours k x (p ∷ ps) =
    ap (λ (b : Bool). readable k p && (key_before (place x) (place (record_from k p)) && b))
    (neighbours k (record_from k p) ps)
    ∙ sym (and_assoc (readable k p) (key_before (place x) (place (record_from k p)))
    (every (readable k) ps && rising place (record_from k p ∷ map (record_from k) ps)))
    ∙ regroup (readable k p) (key_before (place x) (place (record_from k p))) (every (readable k) ps)
    (rising place (record_from k p ∷ map (record_from k) ps))
    ∙ ap (λ (b : Bool). (readable k p && every (readable k) ps) && b)
    (sym (rising-next place x (record_from k p) (map (record_from k) ps)))

-- every record comes after number 0 of origin 0
after-zero : (o q : ℕ) → 1 ≤ q → key_before (0 ∷ 0 ∷ []) (o ∷ q ∷ []) ≡ true
after-zero zero q h = rw (lt-ltb 0 q (omega arith))
after-zero (suc o) q h = rw (lt-ltb 0 (suc o) (omega arith))

-- numbers start at 1
numbered : (n : ℕ) (m : Stamp) (p : List ℕ) → readable (record_kind n m) p ≡ true
    → 1 ≤ (record_from (record_kind n m) p).number
numbered n m p e =
    (obeys body_fits n (record_from (record_kind n m) p) (part-rules n m p (subst T (sym e) tt)).1).number_pos

pub pass_start : (n : ℕ) (m : Stamp) (ps : List (List ℕ))
    → in_order (record_kind n m) ps ≡ rises_from (record_kind n m) (0 ∷ 0 ∷ []) ps
unfolding rises_from in_order
pass_start n m [] = refl
pass_start n m (p ∷ ps) = go (readable k p) refl
  where
    k : Kind
    k = record_kind n m

    go : (b : Bool) → readable k p ≡ b
        → ((b && every (readable k) ps) && rising place (record_from k p ∷ map (record_from k) ps))
        ≡ (b && (key_before (0 ∷ 0 ∷ []) (place (record_from k p)) && rises_from k (place (record_from k p)) ps))
    go true e = rw (after-zero (record_from k p).origin (record_from k p).number (numbered n m p e))
        (sym (neighbours k (record_from k p) ps))
    go false e = refl

-- record i of a message whose head has n screens and stamp m, read as v
module _ (n : ℕ) (m : Stamp) (count : ℕ) (bytes : List ℕ) (i : ℕ) (h : i < count) (last : List ℕ) where
  left : ℕ → List (List ℕ)
  left j = drop j (parts_of count bytes)

  step :
      rises_from (record_kind n m) last (left i)
      ≡ (readable (record_kind n m) (part_at i bytes)
      && (key_before last (place (record_from (record_kind n m) (part_at i bytes)))
      && rises_from (record_kind n m) (place (record_from (record_kind n m) (part_at i bytes))) (left (i + 1))))
  unfolding rises_from left
  step = rw (next-part count bytes i h)

  pub pass_unread : (r : Refusal) → Err r ≡ read_as (record_kind n m) (part_at i bytes)
      → rises_from (record_kind n m) last (drop i (parts_of count bytes)) ≡ false
  unfolding left
  pass_unread r read = step ∙ rw ((unread (record_kind n m) (part_at i bytes) r read).0)

  module _ (o q : ℕ) (l : Parts) (t : Tap)
      (read : Ok (said.Record o q l t) ≡ read_as (record_kind n m) (part_at i bytes)) where
    known : readable (record_kind n m) (part_at i bytes) ≡ true
    known = is_true (readable (record_kind n m) (part_at i bytes))
        (told (record_kind n m) (part_at i bytes) (said.Record o q l t) read).0

    stands : place (record_from (record_kind n m) (part_at i bytes)) ≡ o ∷ q ∷ []
    unfolding record_from
    stands = rw (told_line (record_kind n m) (part_at i bytes) (said.Record o q l t) read (lawful_record n m))

    pub pass_falls : key_before last (o ∷ q ∷ []) ≡ false
        → rises_from (record_kind n m) last (drop i (parts_of count bytes)) ≡ false
    unfolding left
    pass_falls b = step ∙ rw (known, stands, b)

    pub pass_on : key_before last (o ∷ q ∷ []) ≡ true
        → rises_from (record_kind n m) last (drop i (parts_of count bytes))
        ≡ rises_from (record_kind n m) (o ∷ q ∷ []) (drop (i + 1) (parts_of count bytes))
    unfolding left
    pass_on b = step ∙ rw (known, stands, b)

pub pass-end : (k : Kind) (n : ℕ) (bytes : List ℕ) (i : ℕ) (last : List ℕ) → n ≤ i
    → rises_from k last (drop i (parts_of n bytes)) ≡ true
unfolding rises_from
pass-end k n bytes i last h =
    let e : length (parts_of n bytes) ≤ i = rw (length-parts n bytes) h in rw (drop_of_length-le (parts_of n bytes) e)

-- the records as arrays are the parts
pub lower_below : (o count : ℕ) (bytes : List ℕ) → head_long + count * record_long ≤ length bytes
    → count_by (λ p. nat_lt (get_or p 1 0) o) (take count (first_chunks record_long
    (length (take (length bytes - head_long) (drop head_long bytes)) / record_long)
    (take (length bytes - head_long) (drop head_long bytes))))
    ≡ below o (parts_of count bytes)
unfolding below origin_of parts_of
lower_below o count bytes h =
    let rest = drop head_long bytes in
    let all : take (length bytes - head_long) rest ≡ rest = take_all (length bytes - head_long) rest
    (omega (arith, length-drop head_long bytes)) in
    let enough : count ≤ length rest / record_long = omega (arith, length-drop head_long bytes) in
    rw (all, taken_chunks record_long count (length rest / record_long) rest enough)
    (sym (length-filter (λ p. nat_lt (get_or p 1 0) o) (rows record_long count rest)))

pub below-count : (o count : ℕ) (bytes : List ℕ) → below o (parts_of count bytes) ≤ count
unfolding below
below-count o count bytes = omega (
  arith,
  length-filter (λ p. ltb (origin_of p) o) (parts_of count bytes),
  count_by-le-length (λ p. ltb (origin_of p) o) (parts_of count bytes),
  length-parts count bytes,
)
