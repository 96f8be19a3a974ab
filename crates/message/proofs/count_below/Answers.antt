-- `message::count_below` meets its contract. Assumes nothing.
use Rattle.std.proofs.Common.{arith, rules, ◌≡◌, ◌∙◌, nat_lt}
use Rattle.std.specs.Prelude.{count_by, take, get_or}
use Rattle.message.proofs.Turn.{lower_below, below-count}
use Rattle.message.specs.Find.{below}
use Rattle.message.specs.Message.{parts_of}
use Rattle.message.proofs.count_below.Goals as goal

pub returns : goal.returns
returns c =
    let s = c.args in
    let f : c.count.result ≡ count_by (λ p. nat_lt (get_or p 1 0) s.o) (take s.count c.as_chunks.result.0.now) =
    search rules in
    let e : c.count.result ≡ below s.o (parts_of s.count s.msg.now) =
    rw c.as_chunks.ensures.front at f ∙ lower_below s.o s.count s.msg.now c.requires in
    (e, omega (arith, e, below-count s.o s.count s.msg.now))
