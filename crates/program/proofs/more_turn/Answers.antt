-- `program::more_turn` meets its contract. Assumes nothing.
use Rattle.program.proofs.Owes.{more-reads, more-stops, more_breaks}
use Rattle.std.proofs.Common.{rules, ◌≡◌, ◌&&◌, true, false, eqb, length}
use Rattle.program.proofs.more_turn.Goals as goal
use Rattle.program.proofs.more_turn.Goals.{else-opened-via-then-opened+else-is_empty, else-opened-via-else-opened}

pub returns-then-not-ended : goal.returns-then-not-ended
returns-then-not-ended c =
    let s = c.args in
    more-reads s.book.now s.read.now s.ended s.opened s.n s.out.now (search rules)

pub returns-then-is_empty : goal.returns-then-is_empty
returns-then-is_empty c =
    let s = c.args in
    let between : (s.opened && eqb (length s.read.now) 0) ≡ true = search rules in
    more-stops s.book.now s.read.now s.ended s.opened s.n s.out.now (search rules) between

pub returns : goal.returns
returns c =
    let s = c.args in
    let inside : (s.opened && eqb (length s.read.now) 0) ≡ false =
    elim c.else-opened.branch [
      | else-opened-via-then-opened+else-is_empty w ↦ search rules
      | else-opened-via-else-opened w ↦ search rules
    ] in
    more_breaks s.book.now s.read.now s.ended s.opened s.n s.out.now (search rules) inside
    _ _ c.last_refusal.ensures.value c.last_refusal.ensures.out_after
