-- Laws: a gossip message has one writing, and reading gives back what was written. Assumes nothing.
--     well-fits        well formed bytes hold a message that keeps every rule
--     bytes_well       the writing of a message that keeps every rule is well formed
--     message-bytes    and holds that message
--     bytes-message    well formed bytes are the writing of the message that they hold
--     well_exactly     so bytes are well formed exactly when they are the writing of a message that keeps every rule
--     one-message      two byte strings that hold the same message are equal
--     bytes-of-bytes   every element of a writing is a byte
--     length-bytes-of  its length is fixed by the number of records
--     head-long        so is its head's
--     records-writable each of its records is taken by the writer
--     record-held      record i of a well formed message is readable, and holds the message's record i
use Prim.Native.Nat.{ℕ, zero, suc, ◌+◌, ◌*◌, ◌<◌}
use Rattle.std.specs.Prelude.{◌≡◌, refl, Bool, ◌&&◌, leb, eqb, length, take, drop}
use Rattle.std.proofs.Math.Path.{sym, ap, ap₂, subst}
use Rattle.std.proofs.Common.{◌∙◌}
use mathlib.Core.List.{List, [], ◌∷◌, ◌++◌, map, append-nil}
use Rattle.std.proofs.Math.Dec.{T}
use Rattle.std.proofs.Math.ListN.{get_or, length-append, length-map, get_or-map}
use Rattle.std.proofs.Math.Seq.{take_at, drop_at}
use Rattle.lists.specs.TestLaws.{◌∈◌, and_l, and_r, both, given, done, ◌also◌, all_from, every-at, every-get_or}
use Rattle.lists.specs.TestLaws.{same_test}
use Rattle.lists.proofs.ElementLaws.{eq→eqb}
use Rattle.lists.specs.Order.{rising, same_key}
use Rattle.lists.specs.Rows.{rows, flat}
use Rattle.lists.specs.RowLaws.{Wide, rows-flat, length-flat}
use Rattle.lists.proofs.Sorted.{same_key→≡, same_key-refl}
use Rattle.lists.specs.Tests.{every}
use Rattle.limits.specs.Limits.{log_room}
use Rattle.numbers.specs.Number.{Bytes}
use Rattle.numbers.specs.NumberLaws.{bytes_append, bytes_take, bytes_drop}
use Rattle.numbers.proofs.FieldLaws.{bytes_write}
use Rattle.tally.specs.Body.{body_fits}
use Rattle.ledger.specs.Message.{Message, message_rules, message_fits}
use Rattle.ledger.specs.Record.{Record, place, is_known, record_fits}
use Rattle.wire.specs.Kinds.{Kind, widths, head_kind, record_kind, record_in, stamp_at, head_long, record_long}
use Rattle.wire.proofs.Laws.{lawful-head, lawful_record, line-written, length-written, read-written, written-line}
use Rattle.wire.specs.Read.{line_of, readable}
use Rattle.wire.specs.Write.{writable, written}
use Rattle.message.specs.Find.{part_at}
use Rattle.message.proofs.FindLaws.{whole-bytes}
use Rattle.message.specs.LineLaws.{said-line, record-line, line_record, record-writable, stamp-fits, house}
use Rattle.message.specs.LineLaws.{head-stamp, head-writable}
use Rattle.wire.specs.Head.{head_line, sender_in, screens_in, count_in, stamp_in}
use Rattle.message.specs.Message.{parts_of, record_parts, records_kind, record_from, records_in, message_of, in_order}
use Rattle.message.specs.Message.{well_formed, head_of, line_for, message_bytes}
use Rattle.message.specs.Parts.{length-parts, part-at, head-rules, part-rules}
use Rattle.message.specs.Told.{well-head, well-order}

-- a test of what a list's elements hold
every_map : {A B : Type 0} (f : A → B) (p : A → Bool) (q : B → Bool) → ((x : A) → T (p x) → T (q (f x))) → (xs : List A)
    → T (every p xs) → T (every q (map f xs))
every_map f p q g [] t = tt
every_map f p q g (x ∷ xs) t =
    both (q (f x)) (every q (map f xs)) (g x (and_l (p x) (every p xs) t))
    (every_map f p q g xs (and_r (p x) (every p xs) t))

every-both : {A : Type 0} (p q r : A → Bool) → ((x : A) → T (p x) → T (q x) → T (r x)) → (xs : List A) → T (every p xs)
    → T (every q xs) → T (every r xs)
every-both p q r g [] t u = tt
every-both p q r g (x ∷ xs) t u =
    both (r x) (every r xs) (g x (and_l (p x) (every p xs) t) (and_l (q x) (every q xs) u))
    (every-both p q r g xs (and_r (p x) (every p xs) t) (and_r (q x) (every q xs) u))

-- what a list's elements are, where each passes a test
map_same : {A : Type 0} (f : A → A) (p : A → Bool) → ((x : A) → T (p x) → f x ≡ x) → (xs : List A) → T (every p xs)
    → map f xs ≡ xs
map_same f p g [] t = refl
map_same f p g (x ∷ xs) t = ap₂ ◌∷◌ (g x (and_l (p x) (every p xs) t)) (map_same f p g xs (and_r (p x) (every p xs) t))

map_twice : {A B C : Type 0} (f : B → C) (g : A → B) (xs : List A) → map f (map g xs) ≡ map (λ x. f (g x)) xs
map_twice f g [] = refl
map_twice f g (x ∷ xs) = ap (λ l. f (g x) ∷ l) (map_twice f g xs)

-- bytes that are well formed hold a message that keeps every rule
module _ (bytes : List ℕ) where
  pub length-records : length (records_in bytes) ≡ count_in bytes
  unfolding records_in
  length-records = length-map (record_parts bytes) (record_from (records_kind bytes))
      ∙ length-parts (count_in bytes) bytes

  module _ (w : T (well_formed bytes)) where
    readables : T (every (readable (records_kind bytes)) (record_parts bytes))
    unfolding in_order
    readables = and_l (every (readable (records_kind bytes)) (record_parts bytes))
        (rising place (map (record_from (records_kind bytes)) (record_parts bytes))) (well-order bytes w)

    pub well-fits : T (message_fits body_fits (message_of bytes))
    unfolding message_fits message_of records_in head_line in_order
    well-fits =
        let h = head-rules (take head_long bytes) (well-head bytes w) in
        let k = records_kind bytes in
        all_from {cs = message_rules body_fits (message_of bytes)}
        (h.0
        also h.2
        also subst (λ (n : ℕ). T (leb n log_room)) (sym length-records) h.1
        also and_r (every (readable k) (record_parts bytes)) (rising place (map (record_from k) (record_parts bytes)))
        (well-order bytes w)
        also every_map (record_from k) (readable k) (is_known (stamp_in bytes))
        (λ p r. (part-rules (screens_in bytes) (stamp_in bytes) p r).2) (record_parts bytes) readables
        also every_map (record_from k) (readable k) (record_fits body_fits (screens_in bytes))
        (λ p r. (part-rules (screens_in bytes) (stamp_in bytes) p r).1) (record_parts bytes) readables
        also done)

-- the pieces of a writing
part_for : Kind → Record → List ℕ
part_for k r = written k (line_for r)

wide-written : (k : Kind) (w : ℕ) → ((line : List ℕ) → T (writable k line) → length (written k line) ≡ w)
    → (rs : List Record) → T (every (λ r. writable k (line_for r)) rs) → Wide w (map (part_for k) rs)
unfolding Wide part_for
wide-written k w long [] t = tt
wide-written k w long (r ∷ rs) t = (
  long (line_for r) (and_l (writable k (line_for r)) (every (λ x. writable k (line_for x)) rs) t),
  wide-written k w long rs (and_r (writable k (line_for r)) (every (λ x. writable k (line_for x)) rs) t),
)

-- the writing of a message that keeps every rule
module _ (m : Message) (t : T (message_fits body_fits m)) where
  kind : Kind
  kind = record_kind m.screens m.stamp

  pieces : List (List ℕ)
  pieces = map (part_for kind) m.records

  fitting : T (every (record_fits body_fits m.screens) m.records)
  unfolding message_fits
  fitting = given (message_rules body_fits m) t (λ range stamp few order reached obey. obey)

  writables : T (every (λ r. writable kind (line_for r)) m.records)
  unfolding message_fits kind
  writables =
      every-both (is_known m.stamp) (record_fits body_fits m.screens) (λ r. writable kind (line_for r))
      (λ r k f. record-writable m.screens r f m.stamp k (house m t) (stamp-fits m t)) m.records
      (given (message_rules body_fits m) t (λ range stamp few order reached obey. reached)) fitting

  pub records-writable : (r : Record) → r ∈ m.records → T (writable (record_kind m.screens m.stamp) (line_for r))
  unfolding kind
  records-writable r i = every-at (λ x. writable kind (line_for x)) m.records writables i

  pub head-long : length (written head_kind (head_of m)) ≡ head_long
  unfolding head_kind
  head-long = length-written head_kind (head_of m) (head-writable m t)

  wide-pieces : Wide record_long pieces
  unfolding kind record_kind pieces
  wide-pieces = wide-written kind record_long (λ line w. length-written kind line w) m.records writables

  take_head : take head_long (message_bytes m) ≡ written head_kind (head_of m)
  unfolding message_bytes
  take_head = take_at (written head_kind (head_of m)) _ head_long head-long

  drop_head : drop head_long (message_bytes m) ≡ flat pieces
  unfolding message_bytes pieces part_for kind
  drop_head = drop_at (written head_kind (head_of m)) _ head_long head-long

  head-back : head_line (message_bytes m) ≡ head_of m
  unfolding head_line
  head-back = ap (line_of head_kind) take_head ∙ line-written head_kind (head_of m) (head-writable m t)

  count-back : count_in (message_bytes m) ≡ length m.records
  unfolding head_of
  count-back = ap (λ (l : List ℕ). get_or l 3 0) head-back

  kind-back : records_kind (message_bytes m) ≡ kind
  unfolding head_of kind
  kind-back = ap₂ record_kind (ap (λ (l : List ℕ). get_or l 2 0) head-back) (ap (stamp_at 4) head-back ∙ head-stamp m t)

  pieces-back : record_parts (message_bytes m) ≡ pieces
  unfolding parts_of pieces
  pieces-back =
      ap₂ (rows record_long) (count-back ∙ sym (length-map m.records (part_for kind)))
      (drop_head ∙ sym (append-nil (flat pieces)))
      ∙ rows-flat record_long pieces [] wide-pieces

  held_back : map (record_from kind) pieces ≡ m.records
  unfolding pieces part_for record_from kind
  held_back =
      map_twice (record_from kind) (part_for kind) m.records
      ∙ map_same (λ r. record_from kind (part_for kind r))
      (λ r. writable kind (line_for r) && record_fits body_fits m.screens r)
      (λ r f. ap (λ (l : List ℕ). record_in l)
      (line-written kind (line_for r) (and_l (writable kind (line_for r)) (record_fits body_fits m.screens r) f))
      ∙ record-line m.screens r (and_r (writable kind (line_for r)) (record_fits body_fits m.screens r) f))
      m.records
      (every-both (λ r. writable kind (line_for r)) (record_fits body_fits m.screens)
      (λ r. writable kind (line_for r) && record_fits body_fits m.screens r)
      (λ r a b. both (writable kind (line_for r)) (record_fits body_fits m.screens r) a b) m.records writables
      fitting)

  records-back : records_in (message_bytes m) ≡ m.records
  unfolding records_in
  records-back = ap₂ (λ (k : Kind) (ps : List (List ℕ)). map (record_from k) ps) kind-back pieces-back ∙ held_back

  -- reading gives back what was written
  pub message-bytes : message_of (message_bytes m) ≡ m
  unfolding message_of head_of
  message-bytes =
      λ i. record {
        sender = get_or (head-back i) 1 0;
        screens = get_or (head-back i) 2 0;
        stamp = (ap (stamp_at 4) head-back ∙ head-stamp m t) i;
        records = records-back i;
      }

  pub length-bytes-of : length (message_bytes m) ≡ head_long + length m.records * record_long
  unfolding message_bytes pieces part_for kind
  length-bytes-of =
      length-append (written head_kind (head_of m)) (flat pieces)
      ∙ ap₂ ◌+◌ head-long (length-flat record_long pieces wide-pieces
      ∙ ap (λ (n : ℕ). n * record_long) (length-map m.records (part_for kind)))

  ordered : T (in_order kind pieces)
  unfolding in_order message_fits kind pieces part_for
  ordered =
      both (every (readable kind) pieces) (rising place (map (record_from kind) pieces))
      (every_map (part_for kind) (λ r. writable kind (line_for r)) (readable kind)
      (λ r w. (read-written kind (lawful_record m.screens m.stamp) (line_for r) w).0) m.records writables)
      (subst (λ (rs : List Record). T (rising place rs)) (sym held_back)
      (given (message_rules body_fits m) t (λ range stamp few order reached obey. order)))

  pub bytes_well : T (well_formed (message_bytes m))
  unfolding well_formed
  bytes_well =
      both (readable head_kind (take head_long (message_bytes m)))
      (eqb (length (message_bytes m)) (head_long + count_in (message_bytes m) * record_long)
      && in_order (records_kind (message_bytes m)) (record_parts (message_bytes m)))
      (subst (λ (l : List ℕ). T (readable head_kind l)) (sym take_head)
      (read-written head_kind lawful-head (head_of m) (head-writable m t)).0)
      (both (eqb (length (message_bytes m)) (head_long + count_in (message_bytes m) * record_long))
      (in_order (records_kind (message_bytes m)) (record_parts (message_bytes m)))
      (eq→eqb (length (message_bytes m)) (head_long + count_in (message_bytes m) * record_long)
      (length-bytes-of ∙ ap (λ (n : ℕ). head_long + n * record_long) (sym count-back)))
      (subst T (ap₂ in_order (sym kind-back) (sym pieces-back)) ordered))

-- every element of a writing is a byte
bytes-flat : (k : Kind) (rs : List Record) → Bytes (flat (map (part_for k) rs))
unfolding flat Bytes part_for written
bytes-flat k [] = tt
bytes-flat k (r ∷ rs) = bytes_append (written k (line_for r)) (flat (map (part_for k) rs))
    (bytes_write (widths k) (line_for r)) (bytes-flat k rs)

pub bytes-of-bytes : (m : Message) → Bytes (message_bytes m)
unfolding message_bytes written part_for
bytes-of-bytes m =
    bytes_append (written head_kind (head_of m)) (flat (map (part_for (record_kind m.screens m.stamp)) m.records))
    (bytes_write (widths head_kind) (head_of m))
    (bytes-flat (record_kind m.screens m.stamp) m.records)

-- rows of bytes that pass a test
map_rows : (f : List ℕ → List ℕ) (p : List ℕ → Bool) → ((x : List ℕ) → Bytes x → T (p x) → f x ≡ x)
    → (w n : ℕ) (l : List ℕ) → Bytes l → T (every p (rows w n l)) → map f (rows w n l) ≡ rows w n l
unfolding rows
map_rows f p g w zero l b t = refl
map_rows f p g w (suc n) l b t =
    ap₂ ◌∷◌ (g (take w l) (bytes_take w l b) (and_l (p (take w l)) (every p (rows w n (drop w l))) t))
    (map_rows f p g w n (drop w l) (bytes_drop w l b) (and_r (p (take w l)) (every p (rows w n (drop w l))) t))

module _ (bytes : List ℕ) (b : Bytes bytes) (w : T (well_formed bytes)) where
  head-same : head_of (message_of bytes) ≡ head_line bytes
  unfolding head_of message_of head_line head_kind
  head-same =
      ap (λ (n : ℕ). 1 ∷ sender_in bytes ∷ screens_in bytes ∷ n ∷ stamp_in bytes) (length-records bytes)
      ∙ said-line head_kind lawful-head (take head_long bytes) (well-head bytes w)

  pieces-same : map (part_for (records_kind bytes)) (records_in bytes) ≡ record_parts bytes
  unfolding records_in parts_of part_for
  pieces-same =
      let k = records_kind bytes in
      map_twice (part_for k) (record_from k) (record_parts bytes)
      ∙ map_rows (λ p. part_for k (record_from k p)) (readable k)
      (λ p c r. ap (written k) (line_record (screens_in bytes) (stamp_in bytes) p r)
      ∙ written-line k (lawful_record (screens_in bytes) (stamp_in bytes)) p r c)
      record_long (count_in bytes) (drop head_long bytes) (bytes_drop head_long bytes b) (readables bytes w)

  -- writing gives back what was read
  pub bytes-message : message_bytes (message_of bytes) ≡ bytes
  unfolding message_bytes message_of head_line part_for
  bytes-message =
      ap₂ ◌++◌ (ap (written head_kind) head-same
      ∙ written-line head_kind lawful-head (take head_long bytes) (well-head bytes w) (bytes_take head_long bytes b))
      (ap flat pieces-same)
      ∙ sym (whole-bytes bytes w)

pub well_exactly : (bytes : List ℕ) → Bytes bytes
    → well_formed bytes ≡ (message_fits body_fits (message_of bytes)
    && same_key (message_bytes (message_of bytes)) bytes)
well_exactly bytes b =
    let fits = message_fits body_fits (message_of bytes) in
    let same = same_key (message_bytes (message_of bytes)) bytes in
    same_test (well_formed bytes) (fits && same)
    (λ w. both fits same (well-fits bytes w)
    (subst (λ (l : List ℕ). T (same_key l bytes)) (sym (bytes-message bytes b w)) (same_key-refl bytes)))
    (λ t. subst (λ (l : List ℕ). T (well_formed l))
    (same_key→≡ (message_bytes (message_of bytes)) bytes (and_r fits same t))
    (bytes_well (message_of bytes) (and_l fits same t)))

pub one-message : (a b : List ℕ) → Bytes a → Bytes b → T (well_formed a) → T (well_formed b) → message_of a
    ≡ message_of b
    → a ≡ b
one-message a b p q v w e = sym (bytes-message a p v) ∙ ap message_bytes e ∙ bytes-message b q w

-- record i, as the part that is handed on
pub record-held :
    (bytes : List ℕ) → T (well_formed bytes) → (i : ℕ) → i < count_in bytes
    → T (readable (records_kind bytes) (part_at i bytes))
    × (record_from (records_kind bytes) (part_at i bytes)
    ≡ get_or (records_in bytes) i (record_from (records_kind bytes) []))
unfolding records_in
record-held bytes w i h = (
  subst (λ (p : List ℕ). T (readable (records_kind bytes) p)) (part-at (count_in bytes) bytes i h)
      (every-get_or (readable (records_kind bytes)) (record_parts bytes) [] (readables bytes w) i
      (rw (length-parts (count_in bytes) bytes) h)),
  ap (record_from (records_kind bytes)) (sym (part-at (count_in bytes) bytes i h))
      ∙ sym (get_or-map (record_from (records_kind bytes)) (record_parts bytes) i []),
)
