-- `prompts::note` meets its contract. Assumes nothing.
use mathlib.Core.Path.{◌≡◌, ap, ◌∙◌}
use lib.ListN.{length, set}
use Rattle.tally.specs.Tap.{tap_of}
use Rattle.prompts.specs.Region.{standings_at, standing_words, noted_at}
use Rattle.prompts.specs.RegionLaws.{length-words, length-noted, length_standings, prompt-word}
use Rattle.prompts.proofs.note.Goals as goal

pub standing_at-s-requires-clause-p_lt_prompt_count : goal.standing_at-s-requires-clause-p_lt_prompt_count
standing_at-s-requires-clause-p_lt_prompt_count c = rw c.unpack-t.ensures (prompt-word c.args.w)

pub put_standing-requires-clause-p_lt_prompt_count : goal.put_standing-requires-clause-p_lt_prompt_count
put_standing-requires-clause-p_lt_prompt_count c = rw c.unpack-t.ensures (prompt-word c.args.w)

pub returns : goal.returns
returns c =
    let ss = standings_at c.args.r.now in
    let t = tap_of c.args.w in
    let same : standing_words (set ss c.unpack-t.result.prompt c.noted.result)
    ≡ standing_words (noted_at t ss) = rw (c.noted.ensures, c.standing_at-s.ensures, c.unpack-t.ensures) in
    let e = c.put_standing.ensures ∙ same in
    record {
      r_after = e;
      r_len_2 = ap length e ∙ length-words (noted_at t ss) (length-noted t ss ∙ length_standings c.args.r.now);
    }
