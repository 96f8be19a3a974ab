-- `log_edit::shift_up` meets its contract. Assumes nothing.
use Rattle.log_edit.proofs.Slide.{shifted}
use Rattle.log_edit.proofs.shift_up.Goals as goal

pub returns : goal.returns
returns c =
    let s = c.args in
    shifted s.from s.to s.by s.r.now _ c.requires.0 c.requires.1 c.copy_within.ensures.after
