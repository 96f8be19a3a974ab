-- `program::next_turn` meets its contract: what is read tells which turn it is. Assumes nothing.
use lib.Seq.{length-take-le}
use mathlib.Core.Path.{sym, ◌∙◌}
use Rattle.frames.specs.NextLaws.{next-whole}
use Rattle.program.specs.Said.{bad}
use Rattle.program.proofs.Owes.{last-owes, turn-owes}
use Rattle.program.proofs.next_turn.Goals as goal

pub slice_bounds-message_turn-end : goal.slice_bounds-message_turn-end
slice_bounds-message_turn-end c =
    let s = c.args in
    sym (length-take-le c.in-Whole.n s.read.now
    (next-whole s.read.now s.opened _ (sym c.next_in.ensures ∙ c.in-Whole.is)).1)

pub returns-in-More : goal.returns-in-More
returns-in-More c =
    let s = c.args in
    turn-owes s.book.now s.read.now s.ended s.opened s.out.now _
    (sym c.in-More.is ∙ c.next_in.ensures) _ _ _ c.more_turn.ensures

pub returns-in-Whole : goal.returns-in-Whole
returns-in-Whole c =
    let s = c.args in
    turn-owes s.book.now s.read.now s.ended s.opened s.out.now _
    (sym c.in-Whole.is ∙ c.next_in.ensures) _ _ _ c.message_turn.ensures

pub returns-in-Stop : goal.returns-in-Stop
returns-in-Stop c =
    let s = c.args in
    turn-owes s.book.now s.read.now s.ended s.opened s.out.now _
    (sym c.in-Stop.is ∙ c.next_in.ensures) _ _ _
    (last-owes s.book.now bad s.out.now _ _ c.last_refusal.ensures.value c.last_refusal.ensures.out_after)
