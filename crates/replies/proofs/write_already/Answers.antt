-- `replies::write_already` meets its contract. Assumes nothing.
use mathlib.Core.Path.{refl}
use Rattle.wire.proofs.Returns.{put}
use Rattle.wire.specs.Kinds.{already_kind}
use Rattle.replies.proofs.write_already.Goals as goal

pub returns : goal.returns
unfolding already_kind
returns c = put already_kind _ _ refl _ _ refl c.put_stamp.ensures
