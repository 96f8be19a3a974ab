-- `book::question` meets its contract. Assumes nothing.
use Prim.Native.Nat.{ℕ}
use mathlib.Core.Path.{◌≡◌, sym, ap, subst, ◌∙◌}
use mathlib.Core.Bool.{true}
use lib.Dec.{T}
use lib.ListN.{get_or}
use borrow.Author.Tests.{not-true, not-false}
use Rattle.wire.specs.Kinds.{question_kind, stamp_at}
use Rattle.wire.specs.Read.{line_of, readable, read_as}
use Rattle.wire.proofs.ReadLaws.{unread}
use Rattle.wire.specs.Says.{Said}
use Rattle.wire.specs.declared.Refusal.{Refusal}
use Rattle.std.specs.Prelude.{Result}
use mathlib.Core.List.{List}
use Rattle.meaning.specs.Step.{ask}
use Rattle.lent.specs.SoundWords.{lawful-held}
use Rattle.lent.specs.Words.{book_of, lawful}
use Rattle.promise.specs.Lent.{question_on, hear, of_question}
use Rattle.book.specs.Heard.{owes_unsound, owes_unread, question-fits, question-owes}
use Rattle.book.proofs.question.Goals as goal

pub returns-then-not-sound : goal.returns-then-not-sound
unfolding question_on
returns-then-not-sound c =
    let s = c.args in
    rw c.from.ensures
    (owes_unsound s.b.now (sym c.sound.ensures ∙ not-true _ c.if-not-sound.true-raw)
    (hear of_question (book_of s.b.now) s.msg.now))

pub screens_of-requires : goal.screens_of-requires
screens_of-requires c =
    let sound-now : lawful c.args.b.now ≡ true =
    sym c.sound.ensures ∙ not-false _ c.if-not-sound.false-raw in
    lawful-held c.args.b.now (subst T (sym (sound-now)) tt)

-- the question that was read
heard : (ws bytes : List ℕ) (n : ℕ) (r : Result Said Refusal) → r ≡ read_as (question_kind n) bytes
    → n ≡ (book_of ws).screens
    → r ≡ read_as (question_kind (book_of ws).screens) bytes
heard ws bytes n r e f = e ∙ ap (λ (k : ℕ). read_as (question_kind k) bytes) f

pub ask_book-requires : goal.ask_book-requires
ask_book-requires c =
    let sound-now : lawful c.args.b.now ≡ true =
    sym c.sound.ensures ∙ not-false _ c.if-not-sound.false-raw in
    let s = c.args in
    let f = question-fits s.b.now s.msg.now _ (sound-now)
    (heard s.b.now s.msg.now _ _ c.in-Ok.ensures c.screens_of.ensures.0) in
    record {
      sound = subst T (sym (sound-now)) tt;
      prompt_fits = f.0;
      label_fits = f.1;
    }

pub returns-in-Ok : goal.returns-in-Ok
returns-in-Ok c =
    let sound-now : lawful c.args.b.now ≡ true =
    sym c.sound.ensures ∙ not-false _ c.if-not-sound.false-raw in
    let s = c.args in
    question-owes s.b.now s.msg.now _ (sound-now)
    (heard s.b.now s.msg.now _ _ c.in-Ok.ensures c.screens_of.ensures.0) _ c.ask_book.ensures

pub returns-in-Err : goal.returns-in-Err
unfolding question_on
returns-in-Err c =
    let sound-now : lawful c.args.b.now ≡ true =
    sym c.sound.ensures ∙ not-false _ c.if-not-sound.false-raw in
    let s = c.args in
    let k = question_kind (book_of s.b.now).screens in
    let line = line_of k s.msg.now in
    let told = unread k s.msg.now _
    (heard s.b.now s.msg.now _ _ c.in-Err.ensures c.screens_of.ensures.0) in
    rw (c.from-in-Err.ensures, told.1) (owes_unread s.b.now (sound-now) (readable k s.msg.now) told.0
    (ask (book_of s.b.now) (get_or line 1 0) (stamp_at 2 line)))
