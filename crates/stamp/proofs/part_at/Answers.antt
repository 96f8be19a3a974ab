-- `stamp::part_at` meets its contract. Assumes nothing.
use mathlib.Core.Path.{sym}
use lib.ListN.{get_or-eq_default}
use Rattle.stamp.proofs.part_at.Goals as goal

pub returns-then-s-i : goal.returns-then-s-i
returns-then-s-i c = sym (get_or-eq_default c.args.s.now 0 c.if-s-i.true)
