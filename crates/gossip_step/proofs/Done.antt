-- What a gossip does that nothing stops, step by step, of the book that the words hold. Assumes nothing.
use Prim.Native.Nat.{ℕ, ◌+◌, ◌≤◌, ◌<◌}
use native.Mathlib.Omega.{arith}
use mathlib.Core.Path.{◌≡◌, refl, sym, ap, ap₂, subst, ◌∙◌}
use mathlib.Core.List.{List, []}
use lib.Dec.{T}
use lib.ListN.{length, get_or}
use Rattle.limits.specs.Limits.{log_room}
use Rattle.stamp.specs.Laws.{Covers, fits, parts-at_most}
use Rattle.stamp.specs.Stamp.{Stamp, merge}
use Rattle.ledger.specs.Log.{newly_applied, gathered, unknowns}
use Rattle.ledger.specs.Record.{Record}
use Rattle.log_edit.specs.Merge.{Fresh}
use Rattle.message.specs.Message.{records_in, message_of}
use Rattle.meaning.specs.Book.{Book, row, known, ready}
use Rattle.meaning.specs.BookLaws.{Sound, me_in}
use Rattle.meaning.proofs.SettleLaws as meaning
use Rattle.meaning.specs.Step.{now_ready, now_applied, new_ones, gossip_rows, hear_book}
use Rattle.meaning.specs.Done.{GossipDone}
use Rattle.meaning.proofs.StepLaws.{gossip-now, gossip-ready}
use Rattle.lent.specs.Held.{Held, held_is, book_is}
use Rattle.lent.specs.SoundWords.{lawful-sound}
use Rattle.lent.specs.With.{with_table, with_log}
use Rattle.lent.specs.Words.{book_of, words_of, lawful}
use Rattle.settle.specs.InPlace.{new-fresh, rows-shape, log-shape, in-place-ready}
use Rattle.settle.specs.Moves.{settled}
use Rattle.settle.specs.MovesLaws.{settle_is}
use Rattle.settle.specs.Ready.{Appliable}
use Rattle.gossip_step.specs.Taken.{raised_rows, Raisable, Coming}
use Rattle.gossip_step.specs.Heard.{Heard}
use Rattle.gossip_step.proofs.Message.{sender_is, stamp_is, sender_in_lem, stamp_in_lem, screens_is, records_are}

ready-after :
    (b : Book) (rows : List Stamp) (new : List Record)
    → ready (with_log (gathered new b.log) (with_table rows b)) ≡ now_ready b (get_or rows b.me []) new
unfolding ready known row now_ready
ready-after b rows new = refl

-- a gossip that nothing stops
module _ (ws bytes : List ℕ) (j n count : ℕ) (m : Stamp) (w : T (lawful ws)) (h : Heard bytes j n count m)
    (d : GossipDone (book_of ws) (message_of bytes)) where
  abbrev b : Book
  b = book_of ws

  abbrev rows : List Stamp
  rows = gossip_rows (book_of ws) (message_of bytes)

  abbrev new : List Record
  new = new_ones (book_of ws) (message_of bytes)

  sound-now : Sound (book_of ws)
  sound-now = lawful-sound ws w

  ready-now : meaning.Ready b rows new
  ready-now = gossip-ready b (message_of bytes) d

  pub raisable : Raisable (book_of ws) j m
  raisable =
      record {
        row_in = omega (arith, sender_in_lem bytes j n count m h, screens_is bytes j n count m h, d.house);
        me_in = me_in b sound-now;
        other = λ e. d.other (sender_is bytes j n count m h ∙ e);
        long = (fits n m (stamp_in_lem bytes j n count m h)).long;
        newer = parts-at_most (row b j) m
            (subst (λ (x : Stamp). Covers x (row b j)) (stamp_is bytes j n count m h)
            (subst (λ (i : ℕ). Covers (message_of bytes).stamp (row b i)) (sender_is bytes j n count m h) d.newer));
      }

  rows_are : raised_rows (book_of ws) j m ≡ gossip_rows (book_of ws) (message_of bytes)
  unfolding gossip_rows raised_rows
  rows_are = rw (sender_is bytes j n count m h, stamp_is bytes j n count m h)

  -- the rows are set
  module _ (x : Stamp) (o : x ≡ m) (vs : List ℕ)
      (e : vs ≡ words_of (with_table (raised_rows (book_of ws) j x) (book_of ws)))
    where
      rows_words : vs ≡ words_of (with_table rows b)
      rows_words = e ∙ ap (λ (y : List Stamp). words_of (with_table y b)) (ap (raised_rows b j) o ∙ rows_are)

      rows-held : Held vs
      rows-held = held_is vs (with_table rows b) (rows-shape b rows new sound-now ready-now) rows_words

      rows-book : book_of vs ≡ with_table rows b
      rows-book = book_is vs (with_table rows b) (rows-shape b rows new sound-now ready-now) rows_words

      -- the new records come
      module _
          (old : Stamp) (q : old ≡ known b) (k : ℕ) (u : k ≡ length (new_ones b (message_of bytes))) where
        new_are : unknowns old (records_in bytes) ≡ new_ones (book_of ws) (message_of bytes)
        unfolding new_ones
        new_are = ap₂ unknowns q (sym (records_are bytes))

        coming : Coming bytes n count m old k
        coming = record { head = h.head; number = h.number; new-number = u ∙ ap length (sym new_are) }

        still-fresh : Fresh (unknowns old (records_in bytes)) (book_of vs).log
        still-fresh = rw (new_are, rows-book) (new-fresh b rows new sound-now ready-now)

        in-room : length (book_of vs).log + k ≤ log_room
        in-room = omega (arith, ap (λ (x : Book). length x.log) rows-book, u, d.room)

        pub rows_give :
            Held vs
            × (Coming bytes n count m old k
            × (Fresh (unknowns old (records_in bytes)) (book_of vs).log × (length (book_of vs).log + k ≤ log_room)))
        rows_give = (rows-held, (coming, (still-fresh, in-room)))

        module _
            (us : List ℕ)
            (f : us ≡ words_of (with_log (gathered (unknowns old (records_in bytes)) (book_of vs).log)
            (book_of vs))) where
          new-words : us ≡ words_of (with_log (gathered new b.log) (with_table rows b))
          new-words = f ∙ ap₂ (λ (x : List Record) (y : Book). words_of (with_log (gathered x y.log) y)) new_are
              rows-book

          new-held : Held us
          new-held =
              let shape = log-shape b rows new sound-now ready-now in
              held_is us (with_log (gathered new b.log) (with_table rows b)) shape new-words

          new-book : book_of us ≡ with_log (gathered new b.log) (with_table rows b)
          new-book =
              let shape = log-shape b rows new sound-now ready-now in
              book_is us (with_log (gathered new b.log) (with_table rows b)) shape new-words

          still-me : (book_of us).me < (book_of us).screens
          still-me = subst (λ (x : Book). x.me < x.screens) (sym new-book) (me_in b sound-now)

          -- the book can be put in order, under the ready stamp that it had
          module _ (before : Stamp) (o' : before ≡ ready (book_of ws)) where
            all-ready : Appliable before (ready (book_of us)) (book_of us)
            all-ready = rw (o', new-book) (in-place-ready b rows new sound-now ready-now)

            pub new-gives :
                Held us
                × (((book_of us).me < (book_of us).screens) × Appliable before (ready (book_of us)) (book_of us))
            new-gives = (new-held, (still-me, all-ready))

            book-settled : words_of (settled before (book_of us)) ≡ words_of (hear_book (book_of ws) (message_of bytes))
            unfolding hear_book
            book-settled =
                ap₂ (λ (x : Stamp) (y : Book). words_of (settled x y)) o' new-book
                ∙ ap words_of (sym (settle_is b rows new))

            number-applied :
                length (newly_applied before (ready (book_of us)) (book_of us).log)
                ≡ length (now_applied (book_of ws) (merge (known (book_of ws)) (message_of bytes).stamp) new)
            unfolding now_applied
            number-applied =
                ap₂ (λ (x : Stamp) (y : Book). length (newly_applied x (ready y) y.log)) o' new-book
                ∙ ap (λ (x : Stamp). length (newly_applied (ready b) x (gathered new b.log)))
                (ready-after b rows new ∙ ap (λ (x : Stamp). now_ready b x new) (gossip-now b (message_of bytes) d))

            pub settled_is :
                (words_of (settled before (book_of us)) ≡ words_of (hear_book (book_of ws) (message_of bytes)))
                × (length (newly_applied before (ready (book_of us)) (book_of us).log)
                ≡ length (now_applied (book_of ws) (merge (known (book_of ws)) (message_of bytes).stamp)
                (new_ones (book_of ws) (message_of bytes))))
            settled_is = (book-settled, number-applied)
