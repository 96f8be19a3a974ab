-- `taps::insert_word` meets its contract. Assumes nothing.
use Rattle.std.proofs.Common.{rules, arith, take, length-take-le, ltb, T, subst, ap, slice_set, ◌∙◌}
use Rattle.std.proofs.lemmas.List.Sorted.{IsPartitionPoint-from_clause, IsPartitionedBy-ltb}
use Rattle.taps.specs.Region.{taps_at}
use Rattle.taps.specs.RegionLaws.{rising-taps}
use Rattle.taps.proofs.WordLaws.{rising-ordered, put-in-place}
use Rattle.taps.proofs.insert_word.Goals as goal

pub returns : goal.returns
unfolding taps_at
returns c =
    let s = c.args in
    let words = take s.n s.r.now in
    let up = rising-ordered words (subst T (rising-taps words) c.requires.t) in
    let parted = IsPartitionedBy-ltb (λ v. v) words s.w up in
    let point = IsPartitionPoint-from_clause (λ v. ltb v s.w) words _ c.partition_point-place.ensures.partitioned parted
    (λ a r f k. search rules) in
    let within = length-take-le s.n s.r.now (omega arith) in
    ap (λ l. slice_set l c.partition_point-place.result s.w) c.copy_within.ensures.after
    ∙ put-in-place s.r.now s.n c.partition_point-place.result s.w (omega (arith, within)) (omega arith) point
    c.requires.t_2
