-- `book::tap_stop` meets its contract. Assumes nothing.
use Prim.Native.Nat.{ℕ}
use mathlib.Core.Path.{◌≡◌, sym, ap, subst, ◌∙◌}
use mathlib.Core.Bool.{true}
use lib.Dec.{T}
use borrow.Author.Tests.{not-true, not-false}
use Rattle.lists.specs.Tests.{first_of}
use Rattle.wire.specs.Kinds.{tap_kind, tap_at, stamp_at}
use Rattle.wire.specs.Read.{line_of, readable, read_as}
use Rattle.wire.proofs.ReadLaws.{unread}
use Rattle.wire.specs.Says.{tap_says}
use Rattle.wire.specs.declared.TapRequest.{TapRequest}
use Rattle.std.specs.Prelude.{Ok, Err}
use Rattle.std.proofs.lemmas.Result.{err_from_is_err_and}
use mathlib.Core.List.{List}
use Rattle.meaning.specs.Step.{tap_stops}
use Rattle.lent.specs.SoundWords.{lawful-held}
use Rattle.lent.specs.Words.{book_of, lawful}
use Rattle.promise.specs.Lent.{tap_stop}
use Rattle.book.specs.Heard.{stop_unsound, stop_unread, tap-fits, tap-stopped-on}
use Rattle.book.proofs.tap_stop.Goals as goal

pub returns-then-not-sound : goal.returns-then-not-sound
unfolding tap_stop
returns-then-not-sound c =
    let s = c.args in
    let k = tap_kind (book_of s.b.now).screens in
    let line = line_of k s.msg.now in
    rw c.from.ensures
    (stop_unsound s.b.now (sym c.sound.ensures ∙ not-true _ c.if-not-sound.true-raw) (readable k s.msg.now)
    (first_of (tap_stops (book_of s.b.now) (tap_at 1 line) (stamp_at 6 line))))

pub screens_of-requires : goal.screens_of-requires
screens_of-requires c =
    let sound-now : lawful c.args.b.now ≡ true =
    sym c.sound.ensures ∙ not-false _ c.if-not-sound.false-raw in
    lawful-held c.args.b.now (subst T (sym (sound-now)) tt)

pub returns-in_err-asked : goal.returns-in_err-asked
unfolding tap_stop
returns-in_err-asked c =
    let sound-now : lawful c.args.b.now ≡ true =
    sym c.sound.ensures ∙ not-false _ c.if-not-sound.false-raw in
    let s = c.args in
    let k = tap_kind (book_of s.b.now).screens in
    let line = line_of k s.msg.now in
    let refused : Err c.in_err-asked.field-0.0 ≡ read_as (tap_kind c.screens_of.result) s.msg.now =
    c.in_err-asked.ensures in
    let told = unread k s.msg.now _ (refused ∙ ap (λ (n : ℕ). read_as (tap_kind n) s.msg.now) c.screens_of.ensures.0) in
    let p = err_from_is_err_and c.from_residual.result c.from_residual.ensures.1 in
    rw (p.1, p.2, told.1)
    (stop_unread s.b.now (sound-now) (readable k s.msg.now) told.0
    (first_of (tap_stops (book_of s.b.now) (tap_at 1 line) (stamp_at 6 line))))

-- the tap that was read
heard : (ws bytes : List ℕ) (n : ℕ) (a : TapRequest) → Ok (tap_says a) ≡ read_as (tap_kind n) bytes
    → n ≡ (book_of ws).screens
    → Ok (tap_says a) ≡ read_as (tap_kind (book_of ws).screens) bytes
heard ws bytes n a e f = e ∙ ap (λ (k : ℕ). read_as (tap_kind k) bytes) f

pub stop_tap-requires : goal.stop_tap-requires
stop_tap-requires c =
    let sound-now : lawful c.args.b.now ≡ true =
    sym c.sound.ensures ∙ not-false _ c.if-not-sound.false-raw in
    let s = c.args in
    let f = tap-fits s.b.now s.msg.now _ (sound-now)
    (heard s.b.now s.msg.now _ _ c.in_ok-asked.ensures c.screens_of.ensures.0) in
    record {
      sound = subst T (sym (sound-now)) tt;
      tap_fits = f.0;
      label_fits = f.1;
    }

pub returns : goal.returns
returns c =
    let sound-now : lawful c.args.b.now ≡ true =
    sym c.sound.ensures ∙ not-false _ c.if-not-sound.false-raw in
    let s = c.args in
    tap-stopped-on s.b.now s.msg.now _ (sound-now)
    (heard s.b.now s.msg.now _ _ c.in_ok-asked.ensures c.screens_of.ensures.0) c.stop_tap.result
    c.stop_tap.ensures
