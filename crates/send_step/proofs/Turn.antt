-- What the writers leave of a sound book's lines, and how the parts of its message come together. Assumes nothing.
use Prim.Native.Nat.{ℕ, ◌+◌, ◌≤◌, ◌<◌}
use native.Mathlib.Omega.{arith}
use mathlib.Core.Path.{◌≡◌, sym, ap, ap₂, subst, ◌∙◌}
use mathlib.Core.List.{List, [], ◌∷◌, ◌++◌, append-nil}
use borrow.Author.Tests.{le-ltb, lt-ltb}
use lib.Dec.{T}
use lib.ListN.{length, get_or, get_or-map, drop, drop_of_length-le}
use Rattle.lists.specs.TestLaws.{get_or_in, is_true}
use Rattle.lists.specs.Part.{patch}
use Rattle.stamp.specs.Parts.{parts_at, list_of}
use Rattle.stamp.specs.PartsLaws.{list-parts}
use Rattle.stamp.specs.Stamp.{Stamp}
use Rattle.stamp.specs.declared.Parts.{Parts}
use Rattle.tally.specs.Body.{body_fits}
use Rattle.tally.specs.Tap.{fields, tap_of}
use Rattle.tally.specs.declared.Tap.{Tap}
use Rattle.ledger.specs.Message.{message_fits}
use Rattle.ledger.specs.Record.{Record}
use Rattle.book_log.specs.Region.{row_long, record_at, records_of, body_place}
use Rattle.wire.specs.Kinds.{Kind, size_of, head_kind, record_kind, head_long, record_long}
use Rattle.wire.proofs.Returns.{meets}
use Rattle.wire.specs.Said.{figures}
use Rattle.wire.specs.Write.{Written, Meets, writable, written, write_as}
use Rattle.wire.specs.Says as said
use Rattle.std.specs.Prelude.{Ok, Err}
use Rattle.wire.specs.declared.Refusal.TheVariants.{Short}
use Rattle.message.specs.LineLaws.{head-writable}
use Rattle.message.specs.Message.{head_of, line_for, message_bytes}
use Rattle.message.proofs.MessageLaws.{records-writable, length-bytes-of}
use Rattle.meaning.specs.Book.{known}
use Rattle.meaning.specs.BookLaws.{send-fits}
use Rattle.meaning.specs.Step.{send}
use Rattle.lent.specs.SoundWords.{lawful-sound}
use Rattle.lent.specs.Words.{book_of, lawful}
use Rattle.lent.specs.Rows.{no_record}
use Rattle.promise.specs.Lent.{put_front}
use Rattle.send_step.specs.Long.{record-long, whole-message, next_record, no_record_lem}
use Rattle.send_step.specs.Parts.{start_at, record_bytes, with_head, with_records}

-- a line that a writer takes, where there is room for it
wrote-line : (k : Kind) (line out : List ℕ) (a : Written) (bytes : List ℕ) → T (writable k line)
    → size_of k ≤ length out
    → Meets (write_as k line out) a bytes → bytes ≡ written k line ++ drop (size_of k) out
unfolding write_as
wrote-line k line out a bytes w h m = m.leaves ∙ rw (is_true (writable k line) w, le-ltb (length out) (size_of k) h)

-- a row's line, and what is left where its part has just the room
module _ (row : List ℕ) (n : ℕ) (m label : Parts) (tap : Tap) (long : length row ≡ row_long)
    (e : label ≡ parts_at 2 row)
    (f : tap ≡ tap_of (get_or row body_place 0)) where
  row_line : figures (said.Record (get_or row 0 0) (get_or row 1 0) label tap) ≡ line_for (record_at row)
  unfolding line_for
  row_line =
      ap₂ (λ (p : Parts) (t : Tap). 2 ∷ get_or row 0 0 ∷ get_or row 1 0 ∷ list_of p ++ fields t) e f
      ∙ ap (λ (l : Stamp). 2 ∷ get_or row 0 0 ∷ get_or row 1 0 ∷ l ++ fields (tap_of (get_or row body_place 0)))
      (list-parts 2 row (omega arith))

  pub wrote-row :
      (out : List ℕ) (a : Written) (bytes : List ℕ) → length out ≡ record_long
      → T (writable (record_kind n (list_of m)) (line_for (record_at row)))
      → Meets (write_as (record_kind n (list_of m))
      (figures (said.Record (get_or row 0 0) (get_or row 1 0) label tap)) out) a
      bytes
      → bytes ≡ written (record_kind n (list_of m)) (line_for (record_at row))
  unfolding record_kind
  wrote-row out a bytes g w o =
      let room : record_long ≤ length out = omega arith in
      let none : length out ≤ record_long = omega arith in
      wrote-line (record_kind n (list_of m)) (line_for (record_at row)) out a bytes w room
      (subst (λ (l : List ℕ). Meets (write_as (record_kind n (list_of m)) l out) a bytes) row_line o)
      ∙ ap (λ (l : List ℕ). written (record_kind n (list_of m)) (line_for (record_at row)) ++ l)
      (drop_of_length-le out none)
      ∙ append-nil (written (record_kind n (list_of m)) (line_for (record_at row)))

-- the record that a row of the log holds
pub held_record : (rows : List (List ℕ)) (log : List Record) (i : ℕ) → records_of rows ≡ log
    → record_at (get_or rows i []) ≡ get_or log i no_record
held_record rows log i e = sym (get_or-map record_at rows i []) ∙ ap (λ (rs : List Record). get_or rs i no_record) e

module _ (ws : List ℕ) (h : T (lawful ws)) where
  sent-fits : T (message_fits body_fits (send (book_of ws)))
  sent-fits = send-fits (book_of ws) (lawful-sound ws h)

  pub sent-long : (n : ℕ) → n ≡ length (book_of ws).log → length (message_bytes (send (book_of ws))) ≡ start_at n
  unfolding send
  sent-long n e = length-bytes-of (send (book_of ws)) sent-fits ∙ ap (λ (k : ℕ). start_at k) (sym e)

  module _ (m : Parts) (e : list_of m ≡ known (book_of ws)) where
    module _ (i n c : ℕ) (p : i ≡ (book_of ws).me) (q : n ≡ (book_of ws).screens) (r : c ≡ length (book_of ws).log)
      where
        head-line : figures (said.Head i n c m) ≡ head_of (send (book_of ws))
        unfolding head_of send
        head-line = rw (p, q, r, e)

        pub wrote-head :
            (out : List ℕ) (a : Written) (bytes : List ℕ) → head_long ≤ length out
            → Meets (write_as head_kind (figures (said.Head i n c m)) out) a bytes
            → bytes ≡ with_head (send (book_of ws)) out
        unfolding with_head head_kind
        wrote-head out a bytes l o =
            wrote-line head_kind (head_of (send (book_of ws))) out a bytes
            (head-writable (send (book_of ws)) sent-fits) l
            (subst (λ (v : List ℕ). Meets (write_as head_kind v out) a bytes) head-line o)

    -- a row of the log
    module _ (i : ℕ) (l : i < length (book_of ws).log) (row : List ℕ)
        (r : record_at row ≡ get_or (book_of ws).log i no_record) (n : ℕ) (q : n ≡ (book_of ws).screens) where
      pub row-writable : T (writable (record_kind n (list_of m)) (line_for (record_at row)))
      unfolding send
      row-writable = rw (q, e, r)
          (records-writable (send (book_of ws)) sent-fits (get_or (book_of ws).log i no_record)
          (get_or_in (book_of ws).log i no_record l))

      pub row-bytes : written (record_kind n (list_of m)) (line_for (record_at row))
          ≡ record_bytes (send (book_of ws)) (get_or (book_of ws).log i no_record)
      unfolding record_bytes send
      row-bytes = rw (q, e, r)

  -- the pass over the log: one record more, and past the last
  abbrev ahead : ℕ → List ℕ → List ℕ
  ahead i out = with_records (send (book_of ws)) (drop i (book_of ws).log) (start_at i)
      (start_at (length (book_of ws).log)) out

  pub sent-next :
      (i : ℕ) (out left : List ℕ) → i < length (book_of ws).log → start_at (length (book_of ws).log) ≤ length out
      → left ≡ patch (start_at i) record_long out
      (record_bytes (send (book_of ws)) (get_or (book_of ws).log i no_record))
      → ahead i out ≡ ahead (i + 1) left
  unfolding send
  sent-next i out left l room e =
      let log = (book_of ws).log in
      let end : start_at i + record_long ≤ start_at (length log) = omega arith in
      let next : start_at i + record_long ≡ start_at (i + 1) = omega arith in
      next_record (send (book_of ws)) log out i (start_at i) (start_at (length log)) no_record l
      (record-long (send (book_of ws)) sent-fits (get_or log i no_record) (get_or_in log i no_record l)) end room
      ∙ ap₂ (λ (at : ℕ) (o : List ℕ). with_records (send (book_of ws)) (drop (i + 1) log) at (start_at (length log)) o)
      next (sym e)

  pub sent-last : (i : ℕ) (out : List ℕ) → i ≤ length (book_of ws).log → length (book_of ws).log ≤ i
      → ahead i out ≡ out
  sent-last i out l all =
      let log = (book_of ws).log in
      let at : start_at i ≡ start_at (length log) = omega arith in
      ap (λ (k : ℕ). with_records (send (book_of ws)) (drop i log) k (start_at (length log)) out) at
      ∙ no_record_lem (send (book_of ws)) log out i (start_at (length log)) all

  -- the head and then the records
  pub sent-whole :
      (out headed left : List ℕ) → headed ≡ with_head (send (book_of ws)) out
      → left ≡ with_records (send (book_of ws)) (book_of ws).log head_long (start_at (length (book_of ws).log))
      headed
      → left ≡ message_bytes (send (book_of ws)) ++ drop (length (message_bytes (send (book_of ws)))) out
  unfolding send
  sent-whole out headed left e f =
      f
      ∙ ap (with_records (send (book_of ws)) (book_of ws).log head_long (start_at (length (book_of ws).log))) e
      ∙ whole-message (send (book_of ws)) sent-fits out

-- a message at the front of an output, by the test of the room
module _ (bytes out : List ℕ) (n : ℕ) (e : length bytes ≡ n) where
  pub too_short : length out < n → Meets (put_front bytes out) (Err Short) out
  too_short l = meets (Err Short) out (rw (e, lt-ltb (length out) n l))

  pub fits-front : n ≤ length out → (left : List ℕ) → left ≡ bytes ++ drop (length bytes) out
      → Meets (put_front bytes out) (Ok n) left
  fits-front l left w = meets (Ok n) left (rw (w, e, le-ltb (length out) n l))
