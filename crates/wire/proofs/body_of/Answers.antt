-- `wire::body_of` meets its contract. Assumes nothing.
use borrow.Author.Tests.{ne_eqb}
use Rattle.wire.specs.Kinds.{body_by}
use Rattle.wire.proofs.body_of.Goals as goal

pub returns-in-1 : goal.returns-in-1
unfolding body_by
returns-in-1 c = rw c.in-1.is

pub returns-in-2 : goal.returns-in-2
unfolding body_by
returns-in-2 c = rw c.in-2.is

pub returns-in-3 : goal.returns-in-3
unfolding body_by
returns-in-3 c = rw c.in-3.is

pub returns-in-4 : goal.returns-in-4
unfolding body_by
returns-in-4 c = rw c.in-4.is

pub returns-in-5 : goal.returns-in-5
unfolding body_by
returns-in-5 c = rw c.in-5.is

pub returns-in-6 : goal.returns-in-6
unfolding body_by
returns-in-6 c = rw c.in-6.is

pub returns-in-7 : goal.returns-in-7
unfolding body_by
returns-in-7 c = rw c.in-7.is

pub returns-in-8 : goal.returns-in-8
unfolding body_by
returns-in-8 c = rw c.in-8.is

pub returns-in-9 : goal.returns-in-9
unfolding body_by
returns-in-9 c = rw c.in-9.is

pub returns-in-10 : goal.returns-in-10
unfolding body_by
returns-in-10 c = rw c.in-10.is

pub returns-in-11 : goal.returns-in-11
unfolding body_by
returns-in-11 c = rw c.in-11.is

pub returns-in-12 : goal.returns-in-12
unfolding body_by
returns-in-12 c = rw c.in-12.is

-- no kind's number: each test fails, the last arm's first
pub returns-in_default : goal.returns-in_default
unfolding body_by
returns-in_default c =
    let r = c.in_default.in_default-own.rest in
    simp (
      ne_eqb _ _ r.1,
      ne_eqb _ _ r.0.1,
      ne_eqb _ _ r.0.0.1,
      ne_eqb _ _ r.0.0.0.1,
      ne_eqb _ _ r.0.0.0.0.1,
      ne_eqb _ _ r.0.0.0.0.0.1,
      ne_eqb _ _ r.0.0.0.0.0.0.1,
      ne_eqb _ _ r.0.0.0.0.0.0.0.1,
      ne_eqb _ _ r.0.0.0.0.0.0.0.0.1,
      ne_eqb _ _ r.0.0.0.0.0.0.0.0.0.1,
      ne_eqb _ _ r.0.0.0.0.0.0.0.0.0.0.1,
      ne_eqb _ _ r.0.0.0.0.0.0.0.0.0.0.0.1,
    )
