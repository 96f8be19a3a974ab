-- `open_step::open_book` meets its contract. Assumes nothing.
use mathlib.Core.Path.{◌≡◌, sym, ap, subst, ◌∙◌}
use lib.Dec.{T}
use lib.ListN.{length, set, replicate}
use borrow.Author.Rules.{rules}
use mathlib.Core.List.{List}
use Prim.Native.Nat.{ℕ}
use mathlib.Core.Bool.{true, false}
use borrow.Author.Tests.{eq-eqb, ne_eqb}
use Rattle.ledger.specs.Message.{in_range}
use Rattle.ledger.specs.LimitLaws.{range-most}
use Rattle.lent.specs.Words.{Screen, Screens, from, book_long}
use Rattle.open_step.specs.FreshWords.{opened-words}
use Rattle.open_step.specs.OpeningLaws.{wrong-length, out_of_range, opens}
use Rattle.open_step.proofs.open_book.Goals as goal

pub returns-then-b-ne-BOOK : goal.returns-then-b-ne-BOOK
unfolding book_long
returns-then-b-ne-BOOK c =
    let s = c.args in
    wrong-length s.b.now s.i s.n (ne_eqb (length s.b.now) book_long c.if-b-ne-BOOK.true)

pub returns-then-not-in_range : goal.returns-then-not-in_range
unfolding book_long
returns-then-not-in_range c =
    let s = c.args in
    let range : in_range s.i s.n ≡ false = search rules in
    out_of_range s.b.now s.i s.n (eq-eqb (length s.b.now) book_long c.if-b-ne-BOOK.false) range

pub returns : goal.returns
unfolding from book_long
returns c =
    let s = c.args in
    let ws = s.b.now in
    let range : in_range s.i s.n ≡ true = search rules in
    let zeros : c.fill.new.self ≡ replicate (length ws) 0 = search rules in
    opens ws s.i s.n (eq-eqb (length ws) book_long c.if-b-ne-BOOK.false) range _
    (ap (λ (l : List ℕ). set (set l (from Screen) s.i) (from Screens) s.n) zeros
    ∙ opened-words s.i s.n (range-most s.i s.n (subst T (sym range) tt)) ws c.if-b-ne-BOOK.false)
