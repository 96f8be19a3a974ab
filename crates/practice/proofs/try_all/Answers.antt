-- `practice::try_all` is safe and ends: each vector lies behind the one before. Assumes nothing.
use Rattle.std.proofs.Common.{rules, ◌≡◌, Ok, Some, arith}
use Rattle.vectors.specs.File.{entry_at}
use Rattle.vectors.specs.FileLaws.{entry-within}
use Rattle.practice.proofs.try_all.Goals as goal

pub try_vector-requires : goal.try_vector-requires
try_vector-requires g c =
    let l = c.loop-vector in
    let told : entry_at l.at c.args.file.now ≡ Ok (Some c.in-Ok-Some.vector) = search rules in
    let v = entry-within l.at c.args.file.now _ l.invariant.0 told in
    record { inside = v.named; inside_2 = v.asked; inside_3 = v.answered }

pub loop-vector-smaller : goal.loop-vector-smaller
loop-vector-smaller g c =
    let l = c.loop-vector in
    let told : entry_at l.at c.args.file.now ≡ Ok (Some c.in-Ok-Some.vector) = search rules in
    let v = entry-within l.at c.args.file.now _ l.invariant.0 told in
    omega (arith, v.answered.1, v.behind)

pub loop-vector-preserved : goal.loop-vector-preserved
loop-vector-preserved g c =
    let l = c.loop-vector in
    let told : entry_at l.at c.args.file.now ≡ Ok (Some c.in-Ok-Some.vector) = search rules in
    let v = entry-within l.at c.args.file.now _ l.invariant.0 told in
    (v.answered.1, search rules, omega (arith, v.behind))
