-- `gossip_step::own_refusal` meets its contract. Assumes nothing.
use native.Mathlib.Omega.{arith}
use Rattle.gossip_step.proofs.HeadLines.{own_ahead, own_spent, own_room}
use Rattle.gossip_step.proofs.own_refusal.Goals as goal

pub returns-then-known-me : goal.returns-then-known-me
returns-then-known-me c =
    let s = c.args in
    own_ahead s.known.now s.m.now s.me c.if-known-me.true

pub returns-then-book_room-merged_sum : goal.returns-then-book_room-merged_sum
returns-then-book_room-merged_sum c =
    let s = c.args in
    own_spent s.known.now s.m.now s.me c.if-known-me.false
    (omega (arith, c.merged_sum.ensures, c.book_room.ensures, c.if-book_room-merged_sum.true))

pub returns : goal.returns
returns c =
    let s = c.args in
    own_room s.known.now s.m.now s.me c.if-known-me.false
    (omega (arith, c.merged_sum.ensures, c.book_room.ensures, c.if-book_room-merged_sum.false))
