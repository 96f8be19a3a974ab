-- `replies::write_taken` meets its contract. Assumes nothing.
use mathlib.Core.Path.{refl}
use Rattle.wire.proofs.Returns.{put}
use Rattle.wire.specs.Kinds.{taken_kind}
use Rattle.replies.proofs.write_taken.Goals as goal

pub returns : goal.returns
unfolding taken_kind
returns c = put taken_kind _ _ refl _ _ refl c.put_stamp.ensures
