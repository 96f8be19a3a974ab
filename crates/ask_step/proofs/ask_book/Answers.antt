-- `ask_step::ask_book` meets its contract: each return is a line of the question's stops. Assumes nothing.
use Prim.Native.Nat.{ℕ}
use mathlib.Core.Path.{◌≡◌, sym, ap, ap₂, ◌∙◌}
use mathlib.Core.Bool.{false}
use lib.Dec.{ltb}
use borrow.Author.Tests.{not-true, not-false}
use Rattle.stamp.specs.Parts.{list_of}
use Rattle.stamp.specs.Stamp.{part, at_most, excess}
use Rattle.meaning.specs.Book.{known}
use Rattle.meaning.specs.BookLaws.{me_in}
use Rattle.meaning.specs.Reply.{verdict, wait}
use Rattle.meaning.specs.Step.{answer_of}
use Rattle.lent.specs.SoundWords.{lawful-sound, lawful-held}
use Rattle.lent.specs.Words.{book_of}
use Rattle.ask_step.proofs.Lines.{line_3, line-wait, line-answer}
use Rattle.ask_step.proofs.ask_book.Goals as goal

pub label_unknown-requires : goal.label_unknown-requires
label_unknown-requires c =
    record {
      held = lawful-held c.args.b.now c.requires.sound;
      b_bound = me_in (book_of c.args.b.now) (lawful-sound c.args.b.now c.requires.sound);
    }

pub returns-then-label_unknown : goal.returns-then-label_unknown
returns-then-label_unknown c =
    let ws = c.args.b.now in
    let line = line_3 (book_of ws) c.args.question.prompt (list_of c.args.question.label)
    (lawful-sound ws c.requires.sound) c.requires.prompt_fits c.requires.label_fits
    (sym c.label_unknown.ensures ∙ c.if-label_unknown.true) in
    rw c.from.ensures (sym line)

pub value_of-value-requires : goal.value_of-value-requires
value_of-value-requires c = lawful-held c.args.b.now c.requires.sound

pub returns-then-not-at_most : goal.returns-then-not-at_most
returns-then-not-at_most c =
    let own : (let s = c.args in
    ltb (part (known (book_of s.b.now)) (book_of s.b.now).me)
    (part (list_of s.question.label) (book_of s.b.now).me) ≡ false) =
    sym c.label_unknown.ensures ∙ c.if-label_unknown.false in
    let value : c.list_of-covered.result ≡ (book_of c.args.b.now).value =
    c.list_of-covered.ensures ∙ c.value_of-value.ensures in
    let covers : (let s = c.args in
    c.at_most.result ≡ at_most (list_of s.question.label) (book_of s.b.now).value) =
    c.at_most.ensures ∙ ap₂ at_most c.list_of-asked.ensures (value) in
    let ws = c.args.b.now in
    ap wait (c.lacking.ensures.0 ∙ ap₂ excess c.list_of-asked.ensures (value))
    ∙ sym (line-wait (book_of ws) c.args.question.prompt (list_of c.args.question.label)
    (lawful-sound ws c.requires.sound)
    c.requires.prompt_fits c.requires.label_fits (own) (sym (covers) ∙ not-true _ c.if-not-at_most.true-raw))

pub standing_of-s-requires : goal.standing_of-s-requires
standing_of-s-requires c =
    record {
      held = lawful-held c.args.b.now c.requires.sound;
      prompt_lt_prompt_count = c.requires.prompt_fits;
    }

pub returns : goal.returns
unfolding answer_of
returns c =
    let own : (let s = c.args in
    ltb (part (known (book_of s.b.now)) (book_of s.b.now).me)
    (part (list_of s.question.label) (book_of s.b.now).me) ≡ false) =
    sym c.label_unknown.ensures ∙ c.if-label_unknown.false in
    let value : c.list_of-covered.result ≡ (book_of c.args.b.now).value =
    c.list_of-covered.ensures ∙ c.value_of-value.ensures in
    let covers : (let s = c.args in
    c.at_most.result ≡ at_most (list_of s.question.label) (book_of s.b.now).value) =
    c.at_most.ensures ∙ ap₂ at_most c.list_of-asked.ensures (value) in
    let ws = c.args.b.now in
    let r = c.standing_of-s.result in
    ap (λ (k : ℕ). verdict k r.showing r.accepts r.declines (list_of c.value_of-value.result))
    c.verdict_of.ensures
    ∙ ap₂ answer_of c.standing_of-s.ensures c.value_of-value.ensures
    ∙ sym (line-answer (book_of ws) c.args.question.prompt (list_of c.args.question.label)
    (lawful-sound ws c.requires.sound)
    c.requires.prompt_fits c.requires.label_fits (own) (sym (covers) ∙ not-false _ c.if-not-at_most.false-raw))
