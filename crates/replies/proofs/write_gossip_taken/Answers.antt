-- `replies::write_gossip_taken` meets its contract. Assumes nothing.
use mathlib.Core.Path.{refl}
use Rattle.wire.proofs.Returns.{put}
use Rattle.wire.specs.Kinds.{gossip_taken_kind}
use Rattle.replies.proofs.write_gossip_taken.Goals as goal

pub returns : goal.returns
unfolding gossip_taken_kind
returns c = put gossip_taken_kind _ _ refl _ _ refl (rw c.from.ensures at c.put_line.ensures)
