-- `screen::main` is safe and ends: what each turn asks for and says is within the arrays. Assumes nothing.
use Rattle.std.proofs.Common.{rules, arith, ℕ, Bool, List, sym, ap, ◌∙◌, ◌≡◌, ◌≤◌, ◌<◌, length, take, length-take-le}
use borrow.Rule.Slice.PartMut.{same_len_mid}
use Rattle.limits.specs.Limits.{log_room}
use Rattle.wire.specs.Kinds.{longest}
use Rattle.lent.specs.Words.{book_long}
use Rattle.program.proofs.TurnLaws.{read-within, say-within, last_within}
use Rattle.program.specs.Turn.{Turns, turn_on}
use Rattle.program.specs.declared.Turn.{Turn}
use Rattle.program.specs.declared.Turn.TheVariants.{Read}
use Rattle.screen.proofs.main.Goals as goal
use Rattle.screen.proofs.main.Goals.{in-Read+in_ok-got-in-Read, in-Say+in_ok-write_all-in-Say}

-- a turn asks for more than is read, and for no more than the longest message
asked :
    (words msg out after bytes : List ℕ) (ended opened : Bool) (have n : ℕ) (t : Turn)
    → Turns (turn_on words (take have msg) ended opened) t after out bytes → t ≡ Read n → have ≤ length msg
    → (have < n) × (n ≤ longest)
asked words msg out after bytes ended opened have n t p e h =
    let w = read-within _ _ _ _ _ _ _ _ p n e in (omega (arith, w.0, length-take-le have msg h), w.1)

pub loop-init : goal.loop-init
unfolding book_long log_room
loop-init c = search rules

pub slice_bounds-read_full-count : goal.slice_bounds-read_full-count
slice_bounds-read_full-count c =
    let l = c.loop in
    omega (arith, (asked _ l.msg _ _ _ _ _ l.have _ _ c.next_turn.ensures c.in-Read.is (omega arith)).0)

pub slice_bounds-msg-start : goal.slice_bounds-msg-start
slice_bounds-msg-start c =
    let l = c.loop in
    omega (arith, (asked _ l.msg _ _ _ _ _ l.have _ _ c.next_turn.ensures c.in-Read.is (omega arith)).0)

pub slice_bounds-msg-end-in-Read : goal.slice_bounds-msg-end-in-Read
slice_bounds-msg-end-in-Read c =
    let l = c.loop in
    omega (arith, (asked _ l.msg _ _ _ _ _ l.have _ _ c.next_turn.ensures c.in-Read.is (omega arith)).1)

pub overflow_sub-ended : goal.overflow_sub-ended
overflow_sub-ended c =
    let l = c.loop in
    omega (arith, (asked _ l.msg _ _ _ _ _ l.have _ _ c.next_turn.ensures c.in-Read.is (omega arith)).0)

pub slice_bounds-write_all-end : goal.slice_bounds-write_all-end
slice_bounds-write_all-end c =
    let w = say-within _ _ _ _ _ _ _ _ c.next_turn.ensures _ _ c.in-Say.is in
    sym (length-take-le c.in-Say.said c.next_turn.new.out w.2)

pub slice_bounds-out-end : goal.slice_bounds-out-end
slice_bounds-out-end c = (say-within _ _ _ _ _ _ _ _ c.next_turn.ensures _ _ c.in-Say.is).2

pub slice_bounds-write_all-end-in-Last : goal.slice_bounds-write_all-end-in-Last
slice_bounds-write_all-end-in-Last c =
    sym (length-take-le c.in-Last.said c.next_turn.new.out
    (last_within _ _ _ _ _ _ _ _ c.next_turn.ensures _ c.in-Last.is))

pub slice_bounds-out-end-in-Last : goal.slice_bounds-out-end-in-Last
slice_bounds-out-end-in-Last c = last_within _ _ _ _ _ _ _ _ c.next_turn.ensures _ c.in-Last.is

pub loop-preserved : goal.loop-preserved
loop-preserved c =
    let l = c.loop in
    elim c.match-next_turn.branch [
      | in-Read+in_ok-got-in-Read w ↦
          let a = asked _ l.msg _ _ _ _ _ l.have _ _ c.next_turn.ensures w.in-Read.is (omega arith) in
          let part = same_len_mid l.have _ l.msg w.read_full.new.buf (search rules) in
          let long = ap length w.msg-is ∙ part ∙ l.invariant.1 in (
            search rules,
            long,
            search rules,
            omega (arith, a.0, a.1, w.in_ok-got-in-Read.ensures, w.have-is),
          )
      | in-Say+in_ok-write_all-in-Say w ↦ (search rules, search rules, search rules, search rules)
    ]
