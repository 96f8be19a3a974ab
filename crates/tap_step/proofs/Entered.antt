-- Laws: the words on the way from a body that nothing stops to the book put in order. Assumes nothing.
use Prim.Native.Nat.{ℕ, ◌<◌}
use native.Mathlib.Omega.{arith}
use mathlib.Core.Path.{◌≡◌, sym, ap, subst, ◌∙◌}
use mathlib.Core.List.{List, [], ◌∷◌}
use lib.ListN.{length, get_or, set}
use Rattle.limits.specs.Limits.{log_room}
use Rattle.stamp.specs.Stamp.{Stamp, replace}
use Rattle.tally.specs.Body.{Body}
use Rattle.ledger.specs.Log.{gathered}
use Rattle.ledger.specs.Record.{Record}
use Rattle.book_log.specs.Region.{record_at}
use Rattle.log_edit.specs.Merge.{Fresh}
use Rattle.meaning.specs.Book.{Book, known, ready}
use Rattle.meaning.specs.BookLaws.{me_in}
use Rattle.meaning.specs.Step.{new_record, own_rows, take_book}
use Rattle.meaning.specs.Done.{TakeDone}
use Rattle.meaning.proofs.StepLaws.{new-number, take-ready}
use Rattle.lent.specs.Held.{Held, held_is, book_is}
use Rattle.lent.specs.Shape.{Shape}
use Rattle.lent.specs.With.{with_table, with_log}
use Rattle.lent.specs.Words.{book_of, words_of}
use Rattle.settle.specs.Moves.{settled}
use Rattle.settle.specs.MovesLaws.{settle_is}
use Rattle.settle.specs.Ready.{Appliable}
use Rattle.settle.specs.InPlace.{new-fresh, rows-shape, log-shape, in-place-ready}

module _
    (b : Book) (x : Body) (l : Stamp) (d : TakeDone b x l) (row : List ℕ) (e : record_at row ≡ new_record b x l)
    (vs : List ℕ) (f : vs ≡ words_of (with_table (set b.table b.me (replace (known b) b.me (get_or row 1 0))) b))
  where
    abbrev new : List Record
    new = new_record b x l ∷ []

    -- the book with its known stamp raised, and with the record in its log too
    abbrev rowed : Book
    rowed = with_table (own_rows b) b

    abbrev logged : Book
    logged = with_log (gathered new b.log) (with_table (own_rows b) b)

    rowed-shape : Shape rowed
    rowed-shape = rows-shape b (own_rows b) new d.sound-before (take-ready b x l d)

    logged-shape : Shape logged
    logged-shape = log-shape b (own_rows b) new d.sound-before (take-ready b x l d)

    number : get_or row 1 0 ≡ (new_record b x l).number
    number = ap (λ (r : Record). r.number) e

    raised : vs ≡ words_of rowed
    unfolding own_rows
    raised =
        f ∙ ap (λ (n : ℕ). words_of (with_table (set b.table b.me (replace (known b) b.me n)) b))
        (number ∙ new-number b x l)

    raised-book : book_of vs ≡ rowed
    raised-book = book_is vs rowed rowed-shape raised

    same_log : (book_of vs).log ≡ b.log
    same_log = ap (λ (z : Book). z.log) raised-book

    -- the known stamp raised: the record can be put into the log
    pub raised-held : Held vs
    raised-held = held_is vs rowed rowed-shape raised

    pub raised-fresh : Fresh (record_at row ∷ []) (book_of vs).log
    raised-fresh = rw (e, same_log) (new-fresh b (own_rows b) new d.sound-before (take-ready b x l d))

    pub raised-room : length (book_of vs).log < log_room
    raised-room = omega (arith, ap length same_log, d.log-left)

    -- the record in the log: the book can be put in order
    module _ (us : List ℕ) (g : us ≡ words_of (with_log (gathered (record_at row ∷ []) (book_of vs).log) (book_of vs)))
      where
        put : us ≡ words_of logged
        put = g ∙ rw (e, raised-book)

        put-book : book_of us ≡ logged
        put-book = book_is us logged logged-shape put

        pub put-held : Held us
        put-held = held_is us logged logged-shape put

        pub put-me : (book_of us).me < (book_of us).screens
        put-me = subst (λ (z : Book). z.me < z.screens) (sym put-book) (me_in b d.sound-before)

        pub put-ready : (before : Stamp) → before ≡ ready b → Appliable before (ready (book_of us)) (book_of us)
        put-ready before k = rw (k, put-book) (in-place-ready b (own_rows b) new d.sound-before (take-ready b x l d))

        pub put-settled :
            (before : Stamp) → before ≡ ready b → words_of (settled before (book_of us)) ≡ words_of (take_book b x l)
        unfolding take_book
        put-settled before k = rw (k, put-book) (ap words_of (sym (settle_is b (own_rows b) new)))
