-- `tap_step::stop_tap` meets its contract: each return is a line of a tap's stops, or none of them. Assumes nothing.
use Prim.Native.Nat.{ℕ}
use native.Mathlib.Omega.{arith}
use mathlib.Core.Path.{◌≡◌, refl, sym, ap, ◌∙◌}
use mathlib.Core.Bool.{Bool, false}
use mathlib.Core.List.{List}
use mathlib.Core.Option.{some}
use lib.Dec.{T, eqb}
use lib.ListN.{length}
use Rattle.std.specs.Prelude.{None, position}
use borrow.Author.Tests.{le-leb, lt-leb}
use Rattle.lists.specs.Tests.{exists}
use Rattle.limits.specs.Limits.{log_room}
use Rattle.stamp.specs.Parts.{list_of}
use Rattle.stamp.specs.Stamp.{Stamp}
use Rattle.tally.specs.Standing.{among}
use Rattle.tally.specs.Tap.{tap_of, word_of, tap_fits}
use Rattle.tally.proofs.WordLaws.{fits_bits, tap-word}
use Rattle.tally.specs.declared.Tap.{Tap}
use Rattle.ledger.specs.Record.{Record}
use Rattle.meaning.specs.Book.{Book, holds}
use Rattle.meaning.specs.BookLaws.{me_in}
use Rattle.meaning.specs.Reply.{already}
use Rattle.meaning.specs.Step.{first_stamp}
use Rattle.lent.specs.SoundWords.{lawful-sound, lawful-held}
use Rattle.lent.specs.Words.{book_of}
use Rattle.lent.specs.Rows.{no_record}
use Rattle.tap_step.proofs.Found.{tap-gone, tap-within, tap-found, first-stamp}
use Rattle.tap_step.proofs.Lines.{line_3, line-counted, line-logged, line_7, line_9, line_clear}
use Rattle.tap_step.proofs.stop_tap.Goals as goal

-- the word is the tap's
same : (t : Tap) (w : ℕ) → T (tap_fits t) → w ≡ word_of t → tap_of w ≡ t
same t w f e = ap tap_of e ∙ tap-word t (fits_bits t f)

-- a word that is not counted is a tap that is not
uncounted : (b : Book) (t : Tap) (w : ℕ) → tap_of w ≡ t → {a : Bool} → a ≡ among b.counted (tap_of w) → a ≡ false
    → among b.counted t ≡ false
uncounted b t w s e f = ap (among b.counted) (sym s) ∙ sym e ∙ f

-- a word that stands nowhere in the log is a tap that does not
unlogged : (rs : List Record) (t : Tap) (w : ℕ) → tap_of w ≡ t → position (λ r. eqb r.body w) rs ≡ None
    → exists (holds t) rs ≡ false
unlogged rs t w s gone = ap (λ (x : Tap). exists (holds x) rs) (sym s) ∙ tap-gone w rs gone

pub label_unknown-requires : goal.label_unknown-requires
label_unknown-requires c =
    record {
      held = lawful-held c.args.b.now c.requires.sound;
      b_bound = me_in (book_of c.args.b.now) (lawful-sound c.args.b.now c.requires.sound);
    }

pub returns-then-label_unknown : goal.returns-then-label_unknown
returns-then-label_unknown c =
    let ws = c.args.b.now in
    rw c.from.ensures
    (line_3 (book_of ws) c.args.asked.tap (list_of c.args.asked.label)
    (lawful-sound ws c.requires.sound) c.requires.tap_fits
    c.requires.label_fits
    (sym c.label_unknown.ensures ∙ c.if-label_unknown.true))

pub pack-w-requires : goal.pack-w-requires
pack-w-requires c = fits_bits c.args.asked.tap c.requires.tap_fits

pub is_counted-requires : goal.is_counted-requires
is_counted-requires c = lawful-held c.args.b.now c.requires.sound

pub value_of-requires : goal.value_of-requires
value_of-requires c = lawful-held c.args.b.now c.requires.sound

pub returns-then-is_counted : goal.returns-then-is_counted
returns-then-is_counted c =
    let ws = c.args.b.now in
    let b = book_of ws in
    let e = ap (among b.counted) (sym (same c.args.asked.tap _ c.requires.tap_fits c.pack-w.ensures))
    ∙ sym c.is_counted.ensures
    ∙ c.if-is_counted.true in
    line-counted b c.args.asked.tap (list_of c.args.asked.label)
    (lawful-sound ws c.requires.sound) c.requires.tap_fits c.requires.label_fits
    (sym c.label_unknown.ensures ∙ c.if-label_unknown.false) e
    ∙ ap (λ (x : Stamp). some (already x)) (sym c.value_of.ensures)

pub find_logged-requires : goal.find_logged-requires
find_logged-requires c = lawful-held c.args.b.now c.requires.sound

pub logged_stamp-requires : goal.logged_stamp-requires
logged_stamp-requires c =
    record {
      t = c.requires.sound;
      i_in_bounds = tap-within c.pack-w.result (book_of c.args.b.now).log c.in-Some.i no_record
          (sym c.find_logged.ensures ∙ c.in-Some.is);
    }

pub returns-in-Some : goal.returns-in-Some
returns-in-Some c =
    let ws = c.args.b.now in
    let rs = (book_of ws).log in
    let w = c.pack-w.result in
    let s = same c.args.asked.tap _ c.requires.tap_fits c.pack-w.ensures in
    let here = sym c.find_logged.ensures ∙ c.in-Some.is in
    let found = ap (λ (x : Tap). exists (holds x) rs) (sym s) ∙ tap-found w rs c.in-Some.i no_record here in
    let says =
    c.logged_stamp.ensures ∙ sym (first-stamp w rs c.in-Some.i no_record here) ∙ ap (λ (x : Tap). first_stamp x rs) s in
    line-logged (book_of ws) c.args.asked.tap (list_of c.args.asked.label)
    (lawful-sound ws c.requires.sound) c.requires.tap_fits
    c.requires.label_fits
    (sym c.label_unknown.ensures ∙ c.if-label_unknown.false)
    (uncounted (book_of ws) c.args.asked.tap _ s c.is_counted.ensures c.if-is_counted.false) found
    ∙ ap (λ (x : Stamp). some (already x)) (sym says)

pub is_spent-requires : goal.is_spent-requires
is_spent-requires c = c.requires.sound

pub returns-then-is_spent : goal.returns-then-is_spent
returns-then-is_spent c =
    let ws = c.args.b.now in
    let s = same c.args.asked.tap _ c.requires.tap_fits c.pack-w.ensures in
    rw c.from-then-is_spent.ensures
    (line_7 (book_of ws) c.args.asked.tap (list_of c.args.asked.label)
    (lawful-sound ws c.requires.sound) c.requires.tap_fits c.requires.label_fits
    (sym c.label_unknown.ensures ∙ c.if-label_unknown.false)
    (uncounted (book_of ws) c.args.asked.tap _ s c.is_counted.ensures c.if-is_counted.false)
    (unlogged (book_of ws).log c.args.asked.tap _ s (sym c.find_logged.ensures ∙ c.in_default.is))
    (sym c.is_spent.ensures ∙ c.if-is_spent.true))

pub logged_of-requires : goal.logged_of-requires
logged_of-requires c = lawful-held c.args.b.now c.requires.sound

pub returns-then-log_room-logged_of : goal.returns-then-log_room-logged_of
returns-then-log_room-logged_of c =
    let ws = c.args.b.now in
    let s = same c.args.asked.tap _ c.requires.tap_fits c.pack-w.ensures in
    let full = le-leb log_room (length (book_of ws).log)
    (omega (arith, c.log_room.ensures, c.logged_of.ensures.0, c.if-log_room-logged_of.true)) in
    rw c.from-then-log_room-logged_of.ensures
    (line_9 (book_of ws) c.args.asked.tap (list_of c.args.asked.label)
    (lawful-sound ws c.requires.sound) c.requires.tap_fits c.requires.label_fits
    (sym c.label_unknown.ensures ∙ c.if-label_unknown.false)
    (uncounted (book_of ws) c.args.asked.tap _ s c.is_counted.ensures c.if-is_counted.false)
    (unlogged (book_of ws).log c.args.asked.tap _ s (sym c.find_logged.ensures ∙ c.in_default.is))
    (sym c.is_spent.ensures ∙ c.if-is_spent.false) full)

pub returns : goal.returns
returns c =
    let ws = c.args.b.now in
    let s = same c.args.asked.tap _ c.requires.tap_fits c.pack-w.ensures in
    let room = lt-leb log_room (length (book_of ws).log)
    (omega (arith, c.log_room.ensures, c.logged_of.ensures.0, c.if-log_room-logged_of.false)) in (
      line_clear (book_of ws) c.args.asked.tap (list_of c.args.asked.label)
          (lawful-sound ws c.requires.sound) c.requires.tap_fits
          c.requires.label_fits
          (sym c.label_unknown.ensures ∙ c.if-label_unknown.false)
          (uncounted (book_of ws) c.args.asked.tap _ s c.is_counted.ensures c.if-is_counted.false)
          (unlogged (book_of ws).log c.args.asked.tap _ s (sym c.find_logged.ensures ∙ c.in_default.is))
          (sym c.is_spent.ensures ∙ c.if-is_spent.false) room,
      refl,
    )
