-- `replies::write_wait` meets its contract. Assumes nothing.
use mathlib.Core.Path.{refl}
use Rattle.wire.proofs.Returns.{put}
use Rattle.wire.specs.Kinds.{wait_kind}
use Rattle.replies.proofs.write_wait.Goals as goal

pub returns : goal.returns
unfolding wait_kind
returns c = put wait_kind _ _ refl _ _ refl (rw c.from.ensures at c.put_line.ensures)
