-- `soundness::zeros_behind` meets its contract. Assumes nothing.
use native.Mathlib.Omega.{arith}
use Rattle.limits.specs.LimitLaws.{log_small}
use Rattle.limits.specs.Limits.{most}
use Rattle.soundness.proofs.Shape.{rooms_kept}
use Rattle.soundness.proofs.zeros_behind.Goals as goal

pub overflow_mul-b : goal.overflow_mul-b
unfolding most
overflow_mul-b c = record { fits = omega (arith, rooms_kept c.args.b.now c.requires.t) }

pub overflow_mul-b-then-zero_from : goal.overflow_mul-b-then-zero_from
overflow_mul-b-then-zero_from c = record { fits = omega (arith, rooms_kept c.args.b.now c.requires.t, log_small) }
