-- `requests::write_send` meets its contract. Assumes nothing.
use mathlib.Core.Path.{refl}
use Rattle.wire.proofs.Returns.{put}
use Rattle.wire.specs.Kinds.{send_kind}
use Rattle.requests.proofs.write_send.Goals as goal

pub returns : goal.returns
unfolding send_kind
returns c = put send_kind _ _ refl _ _ refl (rw c.from.ensures at c.put_line.ensures)
