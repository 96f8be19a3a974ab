-- `answer::put` meets its contract. Assumes nothing.
use mathlib.Core.Path.{◌∙◌}
use Rattle.answer.proofs.Owes.{put-long, put-bytes}
use Rattle.answer.proofs.put.Goals as goal

pub returns : goal.returns
returns c =
    let m = c.speak.ensures in
    record {
      value = c.unwrap_or.ensures ∙ put-long _ _ _ _ c.requires m;
      out_after = put-bytes _ _ _ _ c.requires m;
    }
