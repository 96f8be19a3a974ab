-- The records of a message one by one: what each part holds, and one turn of each pass over them. Assumes nothing.
use Prim.Native.Nat.{ℕ, suc, ◌+◌, ◌-◌, ◌*◌, ◌≤◌, ◌<◌}
use native.Mathlib.Numerals.{add-one}
use native.Mathlib.Omega.{arith}
use mathlib.Core.Path.{◌≡◌, sym, ap, ap₂, subst, ◌∙◌}
use mathlib.Core.Bool.{Bool, true, false, not}
use mathlib.Core.List.{List, [], ◌∷◌, ◌++◌, map, append-nil}
use lib.Dec.{T, leb}
use lib.ListN.{length, get_or, take, drop, drop_of_length-le, length-append}
use lib.Seq.{take_all, take-suc, drop-cons}
use Rattle.limits.specs.Limits.{parts}
use Rattle.lists.specs.TestLaws.{clash, and_r, bit, keep-length}
use Rattle.lists.specs.Order.{rising}
use Rattle.lists.specs.Tests.{all_below, every, keep}
use Rattle.stamp.specs.Parts.{parts_at, list_of}
use Rattle.stamp.specs.Stamp.{Stamp, part}
use Rattle.stamp.specs.declared.Parts.{Parts}
use Rattle.tally.specs.Tap.{FitsBits, tap_fits, fields, word_of}
use Rattle.tally.proofs.WordLaws.{fits_bits}
use Rattle.tally.specs.declared.Tap.{Tap}
use Rattle.ledger.specs.Log.{unknowns}
use Rattle.ledger.specs.Record.{Record, place, is_known}
use Rattle.book_log.specs.Region.{stamp_long}
use Rattle.book_log.specs.Held.{climbed, climb, holds_all}
use Rattle.book_log.proofs.HeldLaws.{climb-holds}
use Rattle.log_edit.specs.OrderLaws.{keep_append}
use Rattle.wire.specs.Kinds.{Kind, record_kind, tap_at, head_long, record_long}
use Rattle.wire.proofs.Laws.{lawful_record}
use Rattle.wire.specs.Read.{line_of, readable, read_as}
use Rattle.wire.proofs.ReadLaws.{told_line, unread}
use Rattle.wire.specs.declared.Refusal.{Refusal}
use Rattle.std.specs.Prelude.{Ok, Err}
use Rattle.wire.specs.Says.{Said}
use Rattle.wire.specs.Says as said
use Rattle.message.specs.Find.{part_at}
use Rattle.wire.specs.Head.{count_in}
use Rattle.message.specs.Message.{records_kind, record_parts, record_from, records_in, in_order, well_formed}
use Rattle.message.proofs.MessageLaws.{length-records, record-held}
use Rattle.message.specs.Parts.{part-rules}
use Rattle.message.specs.Told.{well-long, well-order}
use Rattle.arrivals.specs.Head.{Head, record_no}

-- record i among all
module _ (bytes : List ℕ) (w : T (well_formed bytes)) (i : ℕ) (l : i < count_in bytes) where
  at_place : get_or (records_in bytes) i (record_from (records_kind bytes) []) ≡ record_no bytes i
  unfolding record_no
  at_place = sym (record-held bytes w i l).1

  inside : i < length (records_in bytes)
  inside = omega (arith, length-records bytes)

  next_in : drop i (records_in bytes) ≡ record_no bytes i ∷ drop (i + 1) (records_in bytes)
  next_in = rw (add-one, drop-cons (records_in bytes) i (record_from (records_kind bytes) []) inside)
      (ap (λ (r : Record). r ∷ drop (suc i) (records_in bytes)) at_place)

  last_in : take (suc i) (records_in bytes) ≡ take i (records_in bytes) ++ (record_no bytes i ∷ [])
  last_in = take-suc (records_in bytes) i (record_from (records_kind bytes) []) inside
      ∙ ap (λ (r : Record). take i (records_in bytes) ++ (r ∷ [])) at_place

-- record i is a part that its reader says
module _ (bytes : List ℕ) (n : ℕ) (m : Stamp) (h : Head bytes n m) (i : ℕ) (l : i < count_in bytes) where
  pub part_inside : head_long + (i + 1) * record_long ≤ length bytes
  part_inside = omega (arith, well-long bytes h.formed)

  kind_in_lem : records_kind bytes ≡ record_kind n m
  kind_in_lem = ap₂ record_kind h.screens h.stamp

  readable-at : T (readable (record_kind n m) (part_at i bytes))
  readable-at = subst (λ (k : Kind). T (readable k (part_at i bytes))) kind_in_lem (record-held bytes h.formed i l).0

  pub never_refused : (r : Refusal) → Err r ≡ read_as (record_kind n m) (part_at i bytes) → ⊥
  never_refused r read = clash (readable (record_kind n m) (part_at i bytes)) readable-at
      (subst (λ (b : Bool). T (not b)) (sym (unread (record_kind n m) (part_at i bytes) r read).0) tt)

  module _ (o q : ℕ) (p : Parts) (t : Tap) (read : Ok (said.Record o q p t)
      ≡ read_as (record_kind n m) (part_at i bytes))
    where
      line_at : line_of (record_kind n m) (part_at i bytes) ≡ 2 ∷ o ∷ q ∷ list_of p ++ fields t
      line_at =
          told_line (record_kind n m) (part_at i bytes) (said.Record o q p t) read (lawful_record n m)

      pub tap-bits : FitsBits t
      unfolding list_of
      tap-bits = fits_bits t (subst (λ (line : List ℕ). T (tap_fits (tap_at (3 + parts) line))) line_at
          (part-rules n m (part_at i bytes) readable-at).0)

      pub record-read : record { origin = o; number = q; label = list_of p; body = word_of t } ≡ record_no bytes i
      unfolding record_no record_from list_of parts_at
      record-read = rw (kind_in_lem, line_at)

-- one turn of the survey, with record i at hand as r
module _ (bytes : List ℕ) (w : T (well_formed bytes)) (i : ℕ) (l : i < count_in bytes) (r : Record)
    (e : r ≡ record_no bytes i) where
  next : drop i (records_in bytes) ≡ r ∷ drop (i + 1) (records_in bytes)
  next = next_in bytes w i l ∙ ap (λ (x : Record). x ∷ drop (i + 1) (records_in bytes)) (sym e)

  pub climb-more : (s : Stamp)
      → climb s (drop i (records_in bytes)) ≡ climb (climbed s r) (drop (i + 1) (records_in bytes))
  unfolding climb
  climb-more s = ap (climb s) next

  pub new-more : (known : Stamp) (c b : ℕ) → b ≡ bit (not (is_known known r))
      → c + length (unknowns known (drop i (records_in bytes)))
      ≡ c + b + length (unknowns known (drop (i + 1) (records_in bytes)))
  unfolding unknowns
  new-more known c b f =
      omega (
        arith,
        ap (λ (rs : List Record). length (unknowns known rs)) next,
        keep-length (λ x. not (is_known known x)) r (drop (i + 1) (records_in bytes)),
      )

module _ (bytes : List ℕ) (i : ℕ) (l : count_in bytes ≤ i) where
  past : drop i (records_in bytes) ≡ []
  past = let e : length (records_in bytes) ≤ i = omega (arith, length-records bytes) in
      drop_of_length-le (records_in bytes) e

  pub climb-end : (s : Stamp) → climb s (drop i (records_in bytes)) ≡ s
  unfolding climb
  climb-end s = ap (climb s) past

  pub new-end : (known : Stamp) (c : ℕ) → c + length (unknowns known (drop i (records_in bytes))) ≡ c
  unfolding unknowns
  new-end known c = ap (λ (rs : List Record). c + length (unknowns known rs)) past ∙ omega arith

-- one turn of the merge, with the last of the first k records at hand as r
pub all_left : (bytes : List ℕ) (known : Stamp) (k : ℕ) → count_in bytes ≡ k
    → unknowns known (take k (records_in bytes)) ≡ unknowns known (records_in bytes)
all_left bytes known k e =
    let h : length (records_in bytes) ≤ k = omega (arith, length-records bytes) in
    ap (unknowns known) (take_all k (records_in bytes) h)

pub none_left : (bytes : List ℕ) (known : Stamp) (k : ℕ) → k ≤ 0 → unknowns known (take k (records_in bytes)) ≡ []
unfolding unknowns
none_left bytes known k h = let e : k ≡ 0 = omega arith in rw e

module _ (bytes : List ℕ) (w : T (well_formed bytes)) (k : ℕ) (some : 0 < k) (l : k ≤ count_in bytes) (r : Record)
    (e : r ≡ record_no bytes (k - 1)) (known : Stamp) where
  split : unknowns known (take k (records_in bytes)) ≡ unknowns known (take (k - 1) (records_in bytes))
      ++ unknowns known (r ∷ [])
  unfolding unknowns
  split =
      let back : k ≡ suc (k - 1) = omega arith in
      let f : take k (records_in bytes) ≡ take (k - 1) (records_in bytes) ++ (r ∷ []) =
      ap (λ (j : ℕ). take j (records_in bytes)) back ∙ last_in bytes w (k - 1) (omega arith)
      ∙ ap (λ (x : Record). take (k - 1) (records_in bytes) ++ (x ∷ [])) (sym e) in
      ap (keep (λ x. not (is_known known x))) f
      ∙ keep_append (λ x. not (is_known known x)) (take (k - 1) (records_in bytes)) (r ∷ [])

  pub skip-known : is_known known r ≡ true
      → unknowns known (take k (records_in bytes)) ≡ unknowns known (take (k - 1) (records_in bytes))
  unfolding unknowns
  skip-known t = split ∙ rw t (append-nil (unknowns known (take (k - 1) (records_in bytes))))

  pub last-new : is_known known r ≡ false
      → unknowns known (take k (records_in bytes)) ≡ unknowns known (take (k - 1) (records_in bytes)) ++ (r ∷ [])
  unfolding unknowns
  last-new t = split ∙ rw t

  -- and so one more than without it
  pub last-left : is_known known r ≡ false → length (unknowns known (take k (records_in bytes)))
      ≡ length (unknowns known (take (k - 1) (records_in bytes))) + 1
  last-left t = ap length (last-new t) ∙ length-append (unknowns known (take (k - 1) (records_in bytes))) (r ∷ [])

-- no number is missing: the climb from the known stamp reaches m
pub look-whole :
    (bytes : List ℕ) → T (well_formed bytes) → (n : ℕ) (known m s reached : Stamp) → length known ≡ stamp_long
    → n ≤ stamp_long → s ≡ m → reached ≡ climb known (records_in bytes)
    → all_below n (λ k. leb (part s k) (part reached k)) ≡ holds_all n known m (records_in bytes)
unfolding in_order records_in
look-whole bytes w n known m s reached long few e f =
    let order = and_r (every (readable (records_kind bytes)) (record_parts bytes))
    (rising place (map (record_from (records_kind bytes)) (record_parts bytes))) (well-order bytes w) in
    rw (e, f) (sym (climb-holds n known m (records_in bytes) order (omega arith)))
