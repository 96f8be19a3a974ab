-- Laws of the wire, once for every lawful kind, and the twelve kinds are lawful. Assumes nothing.
--     read-written     what was written reads as the line that was written
--     written_read     what was read is written as the bytes that were read
--     read-value       what was written reads as the value that was written
--     one_writing      two byte strings that read as the same value are equal
--     put_front_lem        the message stands at the output's front, and what stands past it stays
--     wrote            a writer that answers a length took the line, and had the room
--     refused-leaves   a refusal changes nothing
--     read-front       the front of the output reads as the value that was written there
--     one-outcome      two outcomes that a writer's promise allows are one
--     body-few         no body is longer than a record's
use Rattle.std.specs.Prelude.{ℕ, zero, suc, ◌+◌, ◌≤◌, Bool, ◌&&◌, cond, leb, eqb, take, drop, Result, Ok, Err}
use Rattle.std.proofs.Common.{arith, sym, ap₂, subst, ◌∙◌, leb→le, drop_of_length-le, drop-cons}
use Rattle.std.proofs.Math.Path.{◌≡◌, refl, ap}
use Rattle.std.proofs.Math.Bool.{true, false}
use mathlib.Core.List.{List, [], ◌∷◌, ◌++◌}
use borrow.Author.Tests.{le-ltb, ltb-false}
use Rattle.std.proofs.Math.Dec.{T, ltb, eqb→eq}
use Rattle.std.proofs.Math.ListN.{length, get_or}
use Rattle.std.proofs.Math.Seq.{take_at, drop_at}
use Rattle.lists.specs.TestLaws.{and_l, and_r, both, is_true}
use Rattle.lists.proofs.ElementLaws.{eq→eqb}
use Rattle.lists.specs.Tests.{every}
use Rattle.stamp.specs.Stamp.{Stamp, total}
use Rattle.stamp.specs.Parts.{parts_at, list_of}
use Rattle.numbers.specs.Number.{number_from, Bytes}
use Rattle.numbers.specs.Fields.{fields_fit}
use Rattle.numbers.proofs.FieldLaws.{length-read, read_write, write_read, fit-read, length_write}
use Rattle.wire.specs.Says.{Said}
use Rattle.wire.specs.Says as said
use Rattle.wire.specs.declared.Refusal.{Refusal}
use Rattle.wire.specs.declared.Refusal.TheVariants.{Bad, Short}
use Rattle.wire.specs.Said.{figures, read_figures}
use Rattle.wire.specs.Kinds.{Kind, widths, size_of, lookup, bodies, body_by, is_long, shaped, head_kind, record_kind}
use Rattle.wire.specs.Kinds.{tap_kind, question_kind, taken_kind, already_kind, verdict_kind, wait_kind, refusal_kind}
use Rattle.limits.specs.KindNumbers.{head_number, record_number, tap_number, question_number, taken_number}
use Rattle.limits.specs.KindNumbers.{already_number}
use Rattle.limits.specs.KindNumbers.{verdict_number, wait_number, refusal_number, gossip_taken_number, open_number}
use Rattle.limits.specs.KindNumbers.{send_number}
use Rattle.wire.specs.Kinds.{gossip_taken_kind, open_kind, send_kind}
use Rattle.wire.specs.Kinds.{head_body, record_body, tap_message_body}
use Rattle.wire.specs.Kinds.{question_body, taken_body, already_body, verdict_body, wait_body, refusal_body}
use Rattle.wire.specs.Kinds.{gossip_taken_body, open_body, send_body}
use Rattle.wire.specs.Read.{line_of, readable, read_as}
use Rattle.wire.specs.Write.{Output, Meets, refuse, Written, writable, written, write_as}

-- a body that a table has is no longer than all of them
lookup-few : (m k n : ℕ) (table : List (ℕ × ℕ)) → T (every (λ l. leb l.1 m) table) → lookup k table ≡ Ok n → n ≤ m
lookup-few m k n [] t e = let z : ◌≡◌ {A = ℕ} 0 1 = cc in absurd (omega arith)
lookup-few m k n (l ∷ ls) t e =
    go (eqb k l.0) (lookup-few m k n ls (and_r (leb l.1 m) (every (λ x. leb x.1 m) ls) t)) e
  where
    go : (c : Bool) → (lookup k ls ≡ Ok n → n ≤ m) → cond c (Ok l.1) (lookup k ls) ≡ Ok n → n ≤ m
    go true rec q = let z : l.1 ≡ n = cc in
        omega (arith, leb→le l.1 m (and_l (leb l.1 m) (every (λ x. leb x.1 m) ls) t))
    go false rec q = rec q

pub body-few : (k n : ℕ) → body_by k ≡ Ok n → n ≤ total record_body
unfolding body_by
body-few k n e = lookup-few (total record_body) k n bodies tt e

-- the table has the body's length, and what a line of the kind says is that line
pub record Lawful (k : Kind) : Type 0 where
  pub long : body_by k.number ≡ Ok (total k.body)
  pub told : (line : List ℕ) → length line ≡ length (widths k) → get_or line 0 0 ≡ k.number
      → figures (k.said line) ≡ line

-- the first value of a line is the first byte
first_byte : (k : Kind) (bytes : List ℕ) → get_or (line_of k bytes) 0 0 ≡ get_or bytes 0 0
unfolding line_of number_from
first_byte k [] = refl
first_byte k (x ∷ bytes) = omega arith

length-line : (k : Kind) (bytes : List ℕ) → length (line_of k bytes) ≡ length (widths k)
unfolding line_of
length-line k bytes = length-read (widths k) bytes

module _ (k : Kind) (line : List ℕ) (w : T (writable k line)) where
  number-first : get_or line 0 0 ≡ k.number
  unfolding writable
  number-first = eqb→eq (get_or line 0 0) k.number
      (and_l (eqb (get_or line 0 0) k.number) (fields_fit (widths k) line && k.rules line) w)

  in-widths : T (fields_fit (widths k) line)
  unfolding writable
  in-widths = and_l (fields_fit (widths k) line) (k.rules line)
      (and_r (eqb (get_or line 0 0) k.number) (fields_fit (widths k) line && k.rules line) w)

  rules-kept : T (k.rules line)
  unfolding writable
  rules-kept = and_r (fields_fit (widths k) line) (k.rules line)
      (and_r (eqb (get_or line 0 0) k.number) (fields_fit (widths k) line && k.rules line) w)

  pub line-written : line_of k (written k line) ≡ line
  unfolding line_of written
  line-written = read_write (widths k) line in-widths

  pub length-written : length (written k line) ≡ size_of k
  unfolding written
  length-written = length_write (widths k) line in-widths

module _ (k : Kind) (l : Lawful k) where
  -- bytes of the kind's shape
  shape-from : (bytes : List ℕ) → get_or bytes 0 0 ≡ k.number → length bytes ≡ size_of k → T (shaped k.number bytes)
  unfolding shaped
  shape-from bytes e n =
      both (eqb (get_or bytes 0 0) k.number) (is_long (body_by k.number) (length bytes))
      (eq→eqb (get_or bytes 0 0) k.number e)
      (subst (λ (b : Result ℕ Refusal). T (is_long b (length bytes))) (sym l.long) (eq→eqb (length bytes)
      (size_of k) n))

  module _ (bytes : List ℕ) (r : T (readable k bytes)) where
    shape : T (shaped k.number bytes)
    unfolding readable
    shape = and_l (shaped k.number bytes) (k.rules (line_of k bytes)) r

    kept : T (k.rules (line_of k bytes))
    unfolding readable
    kept = and_r (shaped k.number bytes) (k.rules (line_of k bytes)) r

    kind-first : get_or bytes 0 0 ≡ k.number
    unfolding shaped
    kind-first = eqb→eq (get_or bytes 0 0) k.number
        (and_l (eqb (get_or bytes 0 0) k.number) (is_long (body_by k.number) (length bytes)) shape)

    pub length-readable : length bytes ≡ size_of k
    unfolding shaped
    length-readable =
        eqb→eq (length bytes) (size_of k)
        (subst (λ (b : Result ℕ Refusal). T (is_long b (length bytes))) l.long
        (and_r (eqb (get_or bytes 0 0) k.number) (is_long (body_by k.number) (length bytes)) shape))

    -- what is read has the line as its figures
    pub told-line : figures (k.said (line_of k bytes)) ≡ line_of k bytes
    told-line = l.told (line_of k bytes) (length-line k bytes) (first_byte k bytes ∙ kind-first)

    pub figures-read : read_figures (read_as k bytes) ≡ line_of k bytes
    unfolding read_as
    figures-read = rw (is_true (readable k bytes) r) told-line

    module _ (b : Bytes bytes) where
      pub written-line : written k (line_of k bytes) ≡ bytes
      unfolding written line_of
      written-line = write_read (widths k) bytes b length-readable

      in_width : T (fields_fit (widths k) (line_of k bytes))
      unfolding line_of
      in_width = fit-read (widths k) bytes b length-readable

      pub line-writable : T (writable k (line_of k bytes))
      unfolding writable
      line-writable =
          both (eqb (get_or (line_of k bytes) 0 0) k.number)
          (fields_fit (widths k) (line_of k bytes) && k.rules (line_of k bytes))
          (eq→eqb (get_or (line_of k bytes) 0 0) k.number (first_byte k bytes ∙ kind-first))
          (both (fields_fit (widths k) (line_of k bytes)) (k.rules (line_of k bytes)) in_width kept)

      -- write of read is the bytes
      pub written_read : T (writable k (read_figures (read_as k bytes)))
          × (written k (read_figures (read_as k bytes)) ≡ bytes)
      written_read = rw figures-read (line-writable, written-line)

  -- read of write is the line
  pub read-written : (line : List ℕ) → T (writable k line)
      → T (readable k (written k line)) × (line_of k (written k line) ≡ line)
  unfolding readable
  read-written line w = (
    both (shaped k.number (written k line)) (k.rules (line_of k (written k line)))
        (shape-from (written k line)
        (sym (first_byte k (written k line)) ∙ ap (λ (v : List ℕ). get_or v 0 0) (line-written k line w)
        ∙ number-first k line w) (length-written k line w))
        (subst (λ (v : List ℕ). T (k.rules v)) (sym (line-written k line w)) (rules-kept k line w)),
    line-written k line w,
  )

  -- two byte strings that read as the same value are equal
  pub one_writing : (a b : List ℕ) → Bytes a → Bytes b → T (readable k a) → T (readable k b) → read_as k a ≡ read_as k b
      → a ≡ b
  one_writing a b p q r s e =
      sym (written_read a r p).1 ∙ ap (λ (v : Result Said Refusal). written k (read_figures v)) e
      ∙ (written_read b s q).1

-- what a line says, by its number: a kind's house and stamp judge a line, and do not change what it says
kinds : List Kind
kinds =
    head_kind ∷ record_kind 0 [] ∷ tap_kind 0 ∷ question_kind 0 ∷ taken_kind ∷ already_kind ∷ verdict_kind ∷ wait_kind
    ∷ refusal_kind ∷ gossip_taken_kind ∷ open_kind ∷ send_kind ∷ []

said_by : List Kind → List ℕ → Said
said_by [] line = said.Send
said_by (k ∷ ks) line = cond (eqb (get_or line 0 0) k.number) (k.said line) (said_by ks line)

-- so a value is settled by its figures
value-figures : (v : Said) → said_by kinds (figures v) ≡ v
unfolding kinds said_by head_kind record_kind tap_kind question_kind taken_kind already_kind verdict_kind wait_kind
    refusal_kind
    gossip_taken_kind open_kind send_kind parts_at list_of
value-figures (said.Head sender screens count stamp) = refl
value-figures (said.Record origin number label tap) = refl
value-figures (said.Tap tap label) = refl
value-figures (said.Question prompt label) = refl
value-figures (said.Taken stamp) = refl
value-figures (said.Already stamp) = refl
value-figures (said.Verdict verdict showing accepts declines value) = refl
value-figures (said.Wait bits) = refl
value-figures (said.Refusal number) = refl
value-figures (said.GossipTaken new applied) = refl
value-figures (said.Open screen screens) = refl
value-figures said.Send = refl

same-figures : (v u : Said) → figures v ≡ figures u → v ≡ u
same-figures v u e = sym (value-figures v) ∙ ap (said_by kinds) e ∙ value-figures u

module _ (k : Kind) (l : Lawful k) where
  -- read of write is the value
  pub read-value : (v : Said) → T (writable k (figures v)) → read_as k (written k (figures v)) ≡ Ok v
  unfolding read_as
  read-value v w =
      let bytes = written k (figures v) in
      let r = read-written k l (figures v) w in
      let e : figures (k.said (line_of k bytes)) ≡ figures v = told-line k l bytes r.0 ∙ r.1 in
      rw (is_true (readable k bytes) r.0) (ap Ok (same-figures (k.said (line_of k bytes)) v e))

-- what a writer answers and leaves
module _ (k : Kind) (line out : List ℕ) where
  pub put_front_lem :
      T (writable k line) → size_of k ≤ length out
      → ((write_as k line out).answer ≡ Ok (size_of k))
      × (take (size_of k) (write_as k line out).bytes ≡ written k line)
      × (drop (size_of k) (write_as k line out).bytes ≡ drop (size_of k) out)
  unfolding write_as
  put_front_lem w h =
      rw (is_true (writable k line) w, le-ltb (length out) (size_of k) h) (
        refl,
        take_at (written k line) (drop (size_of k) out) (size_of k) (length-written k line w),
        drop_at (written k line) (drop (size_of k) out) (size_of k) (length-written k line w),
      )

  -- the output by the two tests
  outcome : Bool → Bool → Output
  outcome p q = cond p (cond q (refuse Short out)
      (record { answer = Ok (size_of k); bytes = written k line ++ drop (size_of k) out })) (refuse Bad out)

  pub wrote : (m : ℕ) → (write_as k line out).answer ≡ Ok m
      → T (writable k line) × (size_of k ≤ length out) × (m ≡ size_of k)
  unfolding write_as outcome
  wrote m = go (writable k line) (ltb (length out) (size_of k)) refl
    where
      go : (p q : Bool) → ltb (length out) (size_of k) ≡ q → (outcome p q).answer ≡ Ok m
          → T p × (size_of k ≤ length out) × (m ≡ size_of k)
      go true true t e = let z : ◌≡◌ {A = ℕ} 0 1 = cc in absurd (omega arith)
      go true false t e = (tt, ltb-false (length out) (size_of k) t, cc)
      go false q t e = let z : ◌≡◌ {A = ℕ} 0 1 = cc in absurd (omega arith)

  pub refused-leaves : (r : Refusal) → (write_as k line out).answer ≡ Err r → (write_as k line out).bytes ≡ out
  unfolding write_as outcome
  refused-leaves r = go (writable k line) (ltb (length out) (size_of k))
    where
      go : (p q : Bool) → (outcome p q).answer ≡ Err r → (outcome p q).bytes ≡ out
      go true true e = refl
      go true false e = let z : ◌≡◌ {A = ℕ} 0 1 = cc in absurd (omega arith)
      go false q e = refl

-- the front of the output reads as what was written there
pub read-front : (k : Kind) → Lawful k → (v : Said) (out : List ℕ) → T (writable k (figures v)) → size_of k ≤ length out
    → read_as k (take (size_of k) (write_as k (figures v) out).bytes) ≡ Ok v
read-front k l v out w h = ap (read_as k) (put_front_lem k (figures v) out w h).1 ∙ read-value k l v w

-- two outcomes that a promise allows are one
pub one-outcome : (o : Output) (a b : Written) (x y : List ℕ) → Meets o a x → Meets o b y → (a ≡ b) × (x ≡ y)
one-outcome o a b x y p q = (p.answers ∙ sym q.answers, p.leaves ∙ sym q.leaves)

-- n values of a line from the i-th on
seen : ℕ → ℕ → List ℕ → List ℕ
seen zero i line = []
seen (suc n) i line = get_or line i 0 ∷ seen n (suc i) line

seen_all : (n i : ℕ) (line : List ℕ) → i + n ≡ length line → seen n i line ≡ drop i line
unfolding seen
seen_all zero i line e = let h : length line ≤ i = omega arith in sym (drop_of_length-le line h)
seen_all (suc n) i line e =
    rw (drop-cons line i 0 (omega arith))
    (ap (λ (r : List ℕ). get_or line i 0 ∷ r) (seen_all n (suc i) line (omega arith)))

-- a line is its number and its values one by one
one_by_one : (number n : ℕ) (line : List ℕ) → length line ≡ suc n → get_or line 0 0 ≡ number
    → number ∷ seen n 1 line ≡ line
one_by_one number n [] e h = absurd (omega arith)
one_by_one number n (x ∷ line) e h = ap₂ ◌∷◌ (sym h) (seen_all n 1 (x ∷ line) (omega arith))

pub lawful-head : Lawful head_kind
unfolding head_kind body_by parts_at list_of seen
lawful-head = record { long = refl; told = one_by_one head_number (length head_body) }

pub lawful_record : (n : ℕ) (m : Stamp) → Lawful (record_kind n m)
unfolding record_kind body_by parts_at list_of seen
lawful_record n m = record { long = refl; told = one_by_one record_number (length record_body) }

pub lawful_tap : (n : ℕ) → Lawful (tap_kind n)
unfolding tap_kind body_by parts_at list_of seen
lawful_tap n = record { long = refl; told = one_by_one tap_number (length tap_message_body) }

pub lawful_question : (n : ℕ) → Lawful (question_kind n)
unfolding question_kind body_by parts_at list_of seen
lawful_question n = record { long = refl; told = one_by_one question_number (length question_body) }

pub lawful-taken : Lawful taken_kind
unfolding taken_kind body_by parts_at list_of seen
lawful-taken = record { long = refl; told = one_by_one taken_number (length taken_body) }

pub lawful-already : Lawful already_kind
unfolding already_kind body_by parts_at list_of seen
lawful-already = record { long = refl; told = one_by_one already_number (length already_body) }

pub lawful-verdict : Lawful verdict_kind
unfolding verdict_kind body_by parts_at list_of seen
lawful-verdict = record { long = refl; told = one_by_one verdict_number (length verdict_body) }

pub lawful-wait : Lawful wait_kind
unfolding wait_kind body_by seen
lawful-wait = record { long = refl; told = one_by_one wait_number (length wait_body) }

pub lawful-refusal : Lawful refusal_kind
unfolding refusal_kind body_by seen
lawful-refusal = record { long = refl; told = one_by_one refusal_number (length refusal_body) }

pub lawful-gossip-taken : Lawful gossip_taken_kind
unfolding gossip_taken_kind body_by seen
lawful-gossip-taken = record { long = refl; told = one_by_one gossip_taken_number (length gossip_taken_body) }

pub lawful_open : Lawful open_kind
unfolding open_kind body_by seen
lawful_open = record { long = refl; told = one_by_one open_number (length open_body) }

pub lawful-send : Lawful send_kind
unfolding send_kind body_by seen
lawful-send = record { long = refl; told = one_by_one send_number (length send_body) }
