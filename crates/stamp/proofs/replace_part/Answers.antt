-- `stamp::replace_part` meets its contract. Assumes nothing.
use Rattle.stamp.specs.Laws.{set-replace}
use Rattle.stamp.proofs.replace_part.Goals as goal

pub returns : goal.returns
returns c = set-replace c.args.s.now c.args.k c.args.v c.requires
