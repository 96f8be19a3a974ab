-- Laws: a record and a head as the lines that are written for them. Assumes nothing.
--     record-line, line_record    the line for a record holds it; a line that was read is the line for what it holds
--     record-writable             the line for a record that keeps its rules is taken by the writer
--     head-stamp, head-writable   so for the line of a head
use Rattle.std.specs.Prelude.{ℕ, ◌≤◌, ◌<◌, ◌^◌, ◌≡◌, refl, true, ◌&&◌, List, [], ◌∷◌, ◌++◌, leb, get_or}
use native.Mathlib.Omega.{arith}
use Rattle.std.proofs.Common.{sym, ◌∙◌, lt→ltb}
use Rattle.std.proofs.Math.Path.{ap, subst}
use Rattle.std.proofs.Math.Dec.{T, ltb, leb→le, ltb→lt}
use Rattle.std.proofs.Math.ListN.{length}
use Rattle.lists.specs.TestLaws.{and_l, and_r, both, given, is_true, every-place}
use Rattle.lists.specs.Tests.{every}
use Rattle.limits.specs.LimitLaws.{most-parts, log-counts}
use Rattle.limits.specs.Limits.{parts, word, log_room}
use Rattle.stamp.specs.Laws.{fits-long, fits-words, fits_test}
use Rattle.stamp.specs.Parts.{parts_at, list_of}
use Rattle.stamp.specs.PartsLaws.{whole-stamp}
use Rattle.stamp.specs.Stamp.{Stamp, part, stamp_fits}
use Rattle.stamp.specs.declared.Parts.{Parts}
use Rattle.numbers.specs.Fields.{fields_fit}
use Rattle.tally.specs.Body.{body_fits}
use Rattle.tally.proofs.BodyLaws.{body_tap}
use Rattle.tally.specs.Tap.{fields, tap_fits, tap_of}
use Rattle.tally.proofs.WordLaws.{fits_bits, word_tap, tap-word}
use Rattle.tally.specs.declared.Tap.{Tap}
use Rattle.ledger.specs.LimitLaws.{range-me, range-most}
use Rattle.ledger.specs.Message.{Message, in_range, message_rules, message_fits}
use Rattle.ledger.specs.Record.{Record, record_fits, knows, is_known}
use Rattle.ledger.proofs.RecordLaws.{obeys}
use Rattle.wire.specs.Kinds.{Kind, head_kind, record_kind, record_in, stamp_at, stamp_body, tap_body, head_body}
use Rattle.wire.specs.Kinds.{record_body}
use Rattle.wire.proofs.Laws.{Lawful, figures-read, lawful_record}
use Rattle.wire.specs.Read.{line_of, readable, read_as}
use Rattle.wire.specs.Said.{figures}
use Rattle.wire.specs.Write.{writable}
use Rattle.message.specs.Message.{tap_in, record_from, head_of, line_for}
use Rattle.message.specs.Parts.{part-rules}

fit_append : (ws us vs xs : List ℕ) → T (fields_fit ws vs) → T (fields_fit us xs) → T (fields_fit (ws ++ us) (vs ++ xs))
fit_append [] us [] xs t u = u
fit_append [] us (v ∷ vs) xs t u = absurd t
fit_append (w ∷ ws) us [] xs t u = absurd t
fit_append (w ∷ ws) us (v ∷ vs) xs t u =
    both (ltb v (256 ^ w)) (fields_fit (ws ++ us) (vs ++ xs)) (and_l (ltb v (256 ^ w)) (fields_fit ws vs) t)
    (fit_append ws us vs xs (and_r (ltb v (256 ^ w)) (fields_fit ws vs) t) u)

-- a stamp that keeps its rules is a value, each part in its width
module _ (n : ℕ) (s : Stamp) (t : T (stamp_fits n s)) where
  stamp_list : list_of (parts_at 0 s) ≡ s
  stamp_list = whole-stamp s (fits-long n s t)

  stamp-widths : T (fields_fit stamp_body s)
  unfolding word list_of
  stamp-widths = subst (λ (l : Stamp). T (fields_fit stamp_body l)) stamp_list
      (subst (λ (l : Stamp). T (every (λ x. ltb x word) l)) (sym stamp_list) (fits-words n s t))

-- what a readable line says is that line
pub said-line : (k : Kind) → Lawful k → (bytes : List ℕ) → T (readable k bytes)
    → figures (k.said (line_of k bytes)) ≡ line_of k bytes
unfolding read_as
said-line k l bytes r = rw (is_true (readable k bytes) r) at (figures-read k l bytes r)

-- the line for a record, its label given part by part
told_record : (o q : ℕ) (p : Parts) (b : ℕ)
    → record_in (2 ∷ o ∷ q ∷ list_of p ++ fields (tap_of b))
    ≡ record { origin = o; number = q; label = list_of p; body = b }
unfolding parts_at list_of
told_record o q p b = λ i. record { origin = o; number = q; label = list_of p; body = word_tap b i }

told_tap : (o q : ℕ) (p : Parts) (t : Tap) → tap_in (2 ∷ o ∷ q ∷ list_of p ++ fields t) ≡ t
unfolding list_of
told_tap o q p t = refl

module _ (n : ℕ) (r : Record) (t : T (record_fits body_fits n r)) where
  label-fits : T (stamp_fits n r.label)
  label-fits = fits_test n r.label (obeys body_fits n r t).label-fits

  as_parts : line_for r ≡ 2 ∷ r.origin ∷ r.number ∷ list_of (parts_at 0 r.label) ++ fields (tap_of r.body)
  unfolding line_for
  as_parts = ap (λ (l : Stamp). 2 ∷ r.origin ∷ r.number ∷ l ++ fields (tap_of r.body))
      (sym (stamp_list n r.label label-fits))

  pub record-line : record_in (line_for r) ≡ r
  record-line =
      ap (λ (l : List ℕ). record_in l) as_parts
      ∙ told_record r.origin r.number (parts_at 0 r.label) r.body
      ∙ (λ i. record {
        origin =
            r.origin;
        number = r.number;
        label = stamp_list n r.label label-fits i;
        body = r.body;
      })

  tap-line : tap_in (line_for r) ≡ tap_of r.body
  tap-line =
      ap (λ (l : List ℕ). tap_in l) as_parts
      ∙ told_tap r.origin r.number (parts_at 0 r.label) (tap_of r.body)

  tap-fits : T (tap_fits (tap_of r.body))
  tap-fits = body_tap r.body (obeys body_fits n r t).body-fits

  tap-widths : T (fields_fit tap_body (fields (tap_of r.body)))
  tap-widths =
      let x = tap_of r.body in
      let f = fits_bits x tap-fits in
      both (ltb x.front 256) _ (lt→ltb x.front 256 f.front)
      (both (ltb x.serial 4294967296) _ (lt→ltb x.serial 4294967296 f.serial)
      (both (ltb x.prompt 256) _ (lt→ltb x.prompt 256 (omega (arith, f.prompt)))
      (both (ltb x.showing 65536) _ (lt→ltb x.showing 65536 f.showing)
      (both (ltb x.answer 256) true (lt→ltb x.answer 256 (omega (arith, f.answer))) tt))))

  module _ (m : Stamp) (k : T (is_known m r)) (house : n ≤ parts) (fit : T (stamp_fits n m)) where
    origin_small : r.origin < 256
    origin_small = omega (arith, (obeys body_fits n r t).origin_lt)

    number_small : r.number < 4294967296
    unfolding is_known knows word
    number_small =
        omega (
          arith,
          leb→le r.number (part m r.origin) k,
          ltb→lt (part m r.origin) word (every-place (λ x. ltb x word) m 0 (fits-words n m fit) tt r.origin),
        )

    widths-kept : T (fields_fit (1 ∷ record_body) (line_for r))
    unfolding line_for
    widths-kept =
        both (ltb r.origin 256) _ (lt→ltb r.origin 256 origin_small)
        (both (ltb r.number 4294967296) _ (lt→ltb r.number 4294967296 number_small)
        (fit_append stamp_body tap_body r.label (fields (tap_of r.body)) (stamp-widths n r.label label-fits)
        tap-widths))

    rules-kept :
        T (tap_fits (tap_in (line_for r))
        && (record_fits body_fits n (record_in (line_for r)) && is_known m (record_in (line_for r))))
    rules-kept = rw (tap-line, record-line)
        (both (tap_fits (tap_of r.body)) (record_fits body_fits n r && is_known m r) tap-fits
        (both (record_fits body_fits n r) (is_known m r) t k))

    pub record-writable : T (writable (record_kind n m) (line_for r))
    unfolding writable record_kind line_for
    record-writable = both (fields_fit (1 ∷ record_body) (line_for r)) _ widths-kept rules-kept

-- the line of a part that was read is the line for what it holds
pub line_record : (n : ℕ) (m : Stamp) (p : List ℕ) → T (readable (record_kind n m) p)
    → line_for (record_from (record_kind n m) p) ≡ line_of (record_kind n m) p
unfolding line_for record_from record_kind
line_record n m p r =
    let l = line_of (record_kind n m) p in
    ap (λ (x : Tap). 2 ∷ get_or l 1 0 ∷ get_or l 2 0 ∷ stamp_at 3 l ++ fields x)
    (tap-word (tap_in l) (fits_bits (tap_in l) (part-rules n m p r).0))
    ∙ said-line (record_kind n m) (lawful_record n m) p r

told-stamp : (a b c d : ℕ) (p : Parts) → stamp_at 4 (a ∷ b ∷ c ∷ d ∷ list_of p) ≡ list_of p
unfolding parts_at list_of
told-stamp a b c d p = refl

module _ (m : Message) (t : T (message_fits body_fits m)) where
  pub stamp-fits : T (stamp_fits m.screens m.stamp)
  unfolding message_fits
  stamp-fits = given (message_rules body_fits m) t (λ range stamp few order reached obey. stamp)

  in-house : T (in_range m.sender m.screens)
  unfolding message_fits
  in-house = given (message_rules body_fits m) t (λ range stamp few order reached obey. range)

  few : T (leb (length m.records) log_room)
  unfolding message_fits
  few = given (message_rules body_fits m) t (λ range stamp few order reached obey. few)

  pub house : m.screens ≤ parts
  house = omega (arith, range-most m.sender m.screens in-house, most-parts)

  sender_small : m.sender < m.screens
  sender_small = range-me m.sender m.screens in-house

  count_small : length m.records < 65536
  count_small = omega (arith, leb→le (length m.records) log_room few, log-counts)

  pub head-stamp : stamp_at 4 (head_of m) ≡ m.stamp
  unfolding head_of
  head-stamp =
      let e = stamp_list m.screens m.stamp stamp-fits in
      ap (λ (s : Stamp). stamp_at 4 (1 ∷ m.sender ∷ m.screens ∷ length m.records ∷ s)) (sym e)
      ∙ told-stamp 1 m.sender m.screens (length m.records) (parts_at 0 m.stamp) ∙ e

  head-widths : T (fields_fit (1 ∷ head_body) (head_of m))
  unfolding head_of
  head-widths =
      both (ltb m.sender 256) _ (lt→ltb m.sender 256 (omega (arith, sender_small, house)))
      (both (ltb m.screens 256) _ (lt→ltb m.screens 256 (omega (arith, house)))
      (both (ltb (length m.records) 65536) _ (lt→ltb (length m.records) 65536 count_small)
      (stamp-widths m.screens m.stamp stamp-fits)))

  head-rules-kept : T (in_range m.sender m.screens
      && (leb (length m.records) log_room && stamp_fits m.screens (stamp_at 4 (head_of m))))
  head-rules-kept =
      rw head-stamp
      (both (in_range m.sender m.screens) (leb (length m.records) log_room && stamp_fits m.screens m.stamp)
      in-house (both (leb (length m.records) log_room) (stamp_fits m.screens m.stamp) few stamp-fits))

  pub head-writable : T (writable head_kind (head_of m))
  unfolding writable head_kind head_of
  head-writable = both (fields_fit (1 ∷ head_body) (head_of m)) _ head-widths head-rules-kept
