-- `requests::write_open` meets its contract. Assumes nothing.
use mathlib.Core.Path.{refl}
use Rattle.wire.proofs.Returns.{put}
use Rattle.wire.specs.Kinds.{open_kind}
use Rattle.requests.proofs.write_open.Goals as goal

pub returns : goal.returns
unfolding open_kind
returns c = put open_kind _ _ refl _ _ refl (rw c.from.ensures at c.put_line.ensures)
