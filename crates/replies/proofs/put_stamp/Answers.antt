-- `replies::put_stamp` meets its contract. Assumes nothing.
use mathlib.Core.Path.{refl}
use Rattle.lists.specs.Part.{patch}
use Rattle.stamp.specs.Parts.{list_of}
use Rattle.replies.proofs.put_stamp.Goals as goal

pub put_line-requires : goal.put_line-requires
put_line-requires c = rw c.stamp_widths.ensures refl

pub returns : goal.returns
unfolding list_of patch
returns c =
    rw (c.stamp_widths.ensures, c.put_parts.ensures, c.from.ensures) at c.put_line.ensures
