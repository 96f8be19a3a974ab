-- Laws: the records of one origin are one part of the message, by place and by content. Assumes nothing.
--     whole-bytes      the bytes are the head and the records, one after the other
--     found            an origin's records are the part from their first byte to the first of the next origin's
--     start-some       it starts there
--     start_none       and with no record at the end
--     origin-rows      the rows of what is found are just the records of that origin, in order
--     origin-records   and they hold just the message's records of that origin
--     one-part         two parts that the promise allows are one: its bytes, its place, and so its pointer and length
use Prim.Native.Nat.{ℕ, ◌+◌, ◌-◌, ◌*◌, ◌≤◌}
use native.Mathlib.Omega.{arith}
use Rattle.std.specs.Prelude.{◌≡◌, refl, Bool, true, false, cond, drop}
use Rattle.std.proofs.Math.Path.{sym, ap, ap₂, subst}
use Rattle.std.proofs.Common.{◌∙◌, length-append, length-drop, take-append-drop, drop_of_length-le, take_at, drop_at}
use Rattle.std.proofs.Common.{eq-eqb, ne_eqb}
use mathlib.Core.List.{List, [], ◌∷◌, ◌++◌, map, append_assoc, append-nil}
use Rattle.std.proofs.Math.Dec.{T, eqb, ltb}
use Rattle.std.proofs.Math.ListN.{length, take}
use Rattle.std.proofs.Math.Seq.{length-take-le}
use Rattle.std.specs.Borrow.{Bor}
use denote.Slice.{slice_val, shr_slice_vals}
use Rattle.lists.specs.TestLaws.{either, and_r, is_true}
use Rattle.lists.proofs.Neighbours.{map-rising}
use Rattle.lists.specs.Order.{key_before, rising}
use Rattle.lists.specs.Part.{mid}
use Rattle.lists.specs.Rows.{rows, flat}
use Rattle.lists.specs.RowLaws.{Wide, wide_rows, flat_rows, rows-flat, length-flat}
use Rattle.lists.proofs.Sorted.{before_cons, map-keep}
use Rattle.lists.specs.Tests.{every, keep}
use Rattle.stamp.specs.Stamp.{Stamp}
use Rattle.numbers.specs.Number.{number_from}
use Rattle.ledger.specs.Record.{place}
use Rattle.wire.specs.Kinds.{record_kind, head_long, record_long}
use Rattle.wire.specs.Read.{line_of, readable}
use Rattle.wire.specs.Head.{count_in, screens_in, stamp_in}
use Rattle.message.specs.Message.{parts_of, record_parts, records_kind, record_from, records_in, in_order, well_formed}
use Rattle.message.specs.Find.{origin_of, of_origin, records_of, below, place_for, start_of, Finds}
use Rattle.message.specs.Runs.{count_next, one_run}
use Rattle.message.specs.Told.{well-long, well-order}

flat_append : (a b : List (List ℕ)) → flat (a ++ b) ≡ flat a ++ flat b
unfolding flat
flat_append [] b = refl
flat_append (r ∷ a) b = ap (λ (l : List ℕ). r ++ l) (flat_append a b) ∙ sym (append_assoc r (flat a) (flat b))

wide-keep : (w : ℕ) (p : List ℕ → Bool) (rs : List (List ℕ)) → Wide w rs → Wide w (keep p rs)
unfolding Wide
wide-keep w p [] h = tt
wide-keep w p (r ∷ rs) h = go (p r) (wide-keep w p rs h.1)
  where
    go : (b : Bool) → Wide w (keep p rs) → Wide w (cond b (r ∷ keep p rs) (keep p rs))
    go true k = (h.0, k)
    go false k = k

keep_same : (p q : List ℕ → Bool) (rs : List (List ℕ)) → ((r : List ℕ) → p r ≡ q r) → keep p rs ≡ keep q rs
keep_same p q [] f = refl
keep_same p q (r ∷ rs) f = ap₂ (λ (b : Bool) (l : List (List ℕ)). cond b (r ∷ l) l) (f r) (keep_same p q rs f)

-- a part by what stands before it
middle : (p l s u : List ℕ) → mid (length p + length l) (length s) (p ++ (l ++ (s ++ u))) ≡ s
unfolding mid
middle p l s u = rw (← append_assoc p l (s ++ u), drop_at (p ++ l) (s ++ u) (length p + length l) (length-append p l))
    (take_at s u (length s) refl)

-- the part at the end, and the records of bytes that are refused
pub end-part : (l : List ℕ) → mid (length l) (length l - length l) l ≡ []
unfolding mid
end-part l = let e : length l - length l ≡ 0 = omega arith in rw e

module _ (o : ℕ) (bytes : List ℕ) (r : well_formed bytes ≡ false) where
  pub none-refused : records_of o bytes ≡ []
  unfolding records_of of_origin flat
  none-refused = rw r

  pub start-refused : start_of o bytes ≡ length bytes
  unfolding start_of of_origin
  start-refused = rw r

-- the origin that a part holds is its second byte
pub origin_byte : (n : ℕ) (m : Stamp) (part : List ℕ) → (record_from (record_kind n m) part).origin ≡ origin_of part
unfolding record_from line_of record_kind number_from origin_of
origin_byte n m [] = refl
origin_byte n m (x ∷ []) = refl
origin_byte n m (x ∷ y ∷ part) = omega arith

module _ (bytes : List ℕ) (w : T (well_formed bytes)) where
  long : length (drop head_long bytes) ≡ count_in bytes * record_long
  long = simp length-drop (omega (arith, well-long bytes w))

  wide : Wide record_long (record_parts bytes)
  unfolding parts_of
  wide = wide_rows record_long (count_in bytes) (drop head_long bytes) (omega (arith, long))

  pub whole-bytes : bytes ≡ take head_long bytes ++ flat (record_parts bytes)
  unfolding parts_of
  whole-bytes =
      let e : length (drop head_long bytes) ≤ count_in bytes * record_long = omega (arith, long) in
      sym (take-append-drop head_long bytes)
      ∙ ap (λ (l : List ℕ). take head_long bytes ++ l)
      (sym (flat_rows record_long (count_in bytes) (drop head_long bytes) (omega (arith, long)))
      ∙ rw (drop_of_length-le (drop head_long bytes) e, append-nil))

  rises : T (rising (λ p. place (record_from (records_kind bytes) p)) (record_parts bytes))
  unfolding in_order
  rises =
      subst T (map-rising (record_from (records_kind bytes)) (λ p. place (record_from (records_kind bytes) p)) place
      (λ p. refl) (record_parts bytes))
      (and_r (every (readable (records_kind bytes)) (record_parts bytes))
      (rising place (map (record_from (records_kind bytes)) (record_parts bytes))) (well-order bytes w))

  climbs : (x y : List ℕ) → T
      (key_before (place (record_from (records_kind bytes) x)) (place (record_from (records_kind bytes) y)))
      → origin_of x ≤ origin_of y
  climbs x y b =
      let ox = origin_byte (screens_in bytes) (stamp_in bytes) x in
      let oy = origin_byte (screens_in bytes) (stamp_in bytes) y in
      either (before_cons (record_from (records_kind bytes) x).origin (record_from (records_kind bytes) y).origin
      ((record_from (records_kind bytes) x).number ∷ []) ((record_from (records_kind bytes) y).number ∷ []) b)
      (λ l. omega (arith, ox, oy, l)) (λ e. omega (arith, ox, oy, e.0))

  module _ (o : ℕ) where
    abbrev lower : List (List ℕ)
    lower = keep (λ p. ltb (origin_of p) o) (record_parts bytes)

    abbrev same : List (List ℕ)
    same = keep (λ p. eqb (origin_of p) o) (record_parts bytes)

    abbrev upper : List (List ℕ)
    upper = keep (λ p. ltb o (origin_of p)) (record_parts bytes)

    pub of-origin : of_origin o bytes ≡ same
    unfolding of_origin
    of-origin = rw (is_true (well_formed bytes) w)

    split : bytes ≡ take head_long bytes ++ (flat lower ++ (flat same ++ flat upper))
    split =
        whole-bytes
        ∙ ap (λ (l : List ℕ). take head_long bytes ++ l)
        (ap flat (sym (one_run origin_of o (λ p. place (record_from (records_kind bytes) p)) climbs (record_parts bytes)
        rises)) ∙ flat_append lower (same ++ upper) ∙ ap (λ (l : List ℕ). flat lower ++ l) (flat_append same upper))

    -- the next origin's records start past those of this one
    pub place-next : place_for (o + 1) (record_parts bytes)
        ≡ place_for o (record_parts bytes) + length (of_origin o bytes) * record_long
    unfolding place_for below
    place-next = rw of-origin (omega (arith, count_next origin_of o (record_parts bytes)))

    pub found : mid (place_for o (record_parts bytes))
        (place_for (o + 1) (record_parts bytes) - place_for o (record_parts bytes)) bytes ≡ records_of o bytes
    unfolding records_of place_for below
    found =
        let h : length (take head_long bytes)
        ≡ head_long = length-take-le head_long bytes (omega (arith, well-long bytes w)) in
        let l : length (flat lower)
        ≡ length lower * record_long =
        length-flat record_long lower (wide-keep record_long (λ p. ltb (origin_of p) o) (record_parts bytes) wide) in
        let s : length (flat same)
        ≡ length same * record_long =
        length-flat record_long same (wide-keep record_long (λ p. eqb (origin_of p) o) (record_parts bytes) wide) in
        let k : place_for (o + 1) (record_parts bytes) - place_for o (record_parts bytes)
        ≡ length (flat same) = omega (arith, place-next, ap (λ (r : List (List ℕ)). length r) of-origin) in
        ap₂ (λ (a b : ℕ). mid a b bytes) (ap₂ ◌+◌ (sym h) (sym l)) k
        ∙ ap (mid (length (take head_long bytes) + length (flat lower)) (length (flat same))) split
        ∙ middle (take head_long bytes) (flat lower) (flat same) (flat upper)
        ∙ ap flat (sym of-origin)

    pub none_found : place_for o (record_parts bytes) ≡ place_for (o + 1) (record_parts bytes) → records_of o bytes ≡ []
    unfolding mid
    none_found e = let z : place_for (o + 1) (record_parts bytes) - place_for o (record_parts bytes)
        ≡ 0 = omega arith in
        sym found ∙ rw z

    pub start-some : (place_for o (record_parts bytes) ≡ place_for (o + 1) (record_parts bytes) → ⊥)
        → start_of o bytes ≡ place_for o (record_parts bytes)
    unfolding start_of
    start-some n = rw (ne_eqb (length (of_origin o bytes)) 0 (λ e. n (omega (arith, place-next))))

    pub start_none : place_for o (record_parts bytes) ≡ place_for (o + 1) (record_parts bytes)
        → start_of o bytes ≡ length bytes
    unfolding start_of
    start_none e = rw (eq-eqb (length (of_origin o bytes)) 0 (omega (arith, place-next)))

    pub origin-rows : rows record_long (length (of_origin o bytes)) (records_of o bytes) ≡ of_origin o bytes
    unfolding records_of
    origin-rows =
        ap (rows record_long (length (of_origin o bytes))) (sym (append-nil (flat (of_origin o bytes))))
        ∙ rows-flat record_long (of_origin o bytes) []
        (rw of-origin (wide-keep record_long (λ p. eqb (origin_of p) o) (record_parts bytes) wide))

    -- they hold just the message's records of that origin
    pub origin-records : map (record_from (records_kind bytes)) (of_origin o bytes)
        ≡ keep (λ r. eqb r.origin o) (records_in bytes)
    unfolding records_in
    origin-records =
        ap (map (record_from (records_kind bytes)))
        (of-origin ∙ keep_same (λ p. eqb (origin_of p) o) (λ p. eqb (record_from (records_kind bytes) p).origin o)
        (record_parts bytes) (λ p. ap (λ (x : ℕ). eqb x o) (sym (origin_byte (screens_in bytes) (stamp_in bytes) p))))
        ∙ map-keep (record_from (records_kind bytes)) (λ r. eqb r.origin o) (record_parts bytes)

-- two parts that both meet what finding promises are equal: the same bytes at the same place, so the same slice to a
-- caller
pub one-part :
    (o : ℕ) (msg p q : Bor (List ℕ)) → Finds o msg p → Finds o msg q
    → (p.now ≡ q.now) × (p.ref_ptr ≡ q.ref_ptr) × (shr_slice_vals p ≡ shr_slice_vals q)
one-part o msg p q f g =
    let record_from : p.now ≡ q.now = f.holds ∙ sym g.holds in
    let at : p.ref_ptr ≡ q.ref_ptr = ap₂ (λ (b k : ℕ). (b, k)) (f.block ∙ sym g.block) (f.starts ∙ sym g.starts) in
    (record_from, at, ap₂ (λ (a : ℕ × ℕ) (l : List ℕ). slice_val a (length l) ∷ []) at record_from)
