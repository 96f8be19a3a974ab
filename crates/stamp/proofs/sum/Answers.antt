-- `stamp::sum` meets its contract: eight parts of 32 bits are together less than 64 bits hold. Assumes nothing.
use Rattle.std.proofs.Common.{rules, ◌≡◌, ◌<◌, ◌^◌, arith, ◌∙◌}
use Rattle.std.specs.List.{sum}
use Rattle.limits.specs.Limits.{word}
use Rattle.stamp.specs.Laws.{total-below}
use Rattle.stamp.proofs.Step.{sum-total}
use Rattle.stamp.proofs.sum.Goals as goal

pub sum-requires-clause-fits : goal.sum-requires-clause-fits
unfolding word
sum-requires-clause-fits c =
    let s = c.args.s.now in
    let small : sum s < 2 ^ 64 = omega (arith, sum-total s, total-below word s c.requires.t) in
    search rules

pub returns : goal.returns
returns c =
    let e : c.sum.result ≡ sum c.args.s.now = search rules in
    e ∙ sum-total c.args.s.now
