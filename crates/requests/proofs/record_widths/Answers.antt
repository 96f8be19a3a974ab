-- `requests::record_widths` meets its contract. Assumes nothing.
use Rattle.lists.specs.Part.{patch}
use Rattle.requests.proofs.record_widths.Goals as goal

pub returns : goal.returns
unfolding patch
returns c = c.put_tap_widths.ensures
