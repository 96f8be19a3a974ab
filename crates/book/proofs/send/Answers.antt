-- `book::send` meets its contract. Assumes nothing.
use mathlib.Core.Path.{◌≡◌, sym, subst, ◌∙◌}
use mathlib.Core.Bool.{true}
use lib.Dec.{T}
use borrow.Author.Tests.{not-true, not-false}
use Rattle.lent.specs.Words.{lawful}
use Rattle.book.specs.Heard.{send-owes_unsound, send-owes}
use Rattle.book.proofs.send.Goals as goal

pub returns-then-not-sound : goal.returns-then-not-sound
returns-then-not-sound c =
    let s = c.args in
    send-owes_unsound s.b.now s.out.now (sym c.sound.ensures ∙ not-true _ c.if-not-sound.true-raw)

pub send_book-requires : goal.send_book-requires
send_book-requires c =
    let sound-now : lawful c.args.b.now ≡ true =
    sym c.sound.ensures ∙ not-false _ c.if-not-sound.false-raw in
    subst T (sym (sound-now)) tt

pub returns : goal.returns
returns c =
    let sound-now : lawful c.args.b.now ≡ true =
    sym c.sound.ensures ∙ not-false _ c.if-not-sound.false-raw in
    let s = c.args in
    send-owes s.b.now s.out.now (sound-now) _ _ c.send_book.ensures
