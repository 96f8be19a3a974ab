-- `prompts::standing_at` meets its contract. Assumes nothing.
use Rattle.std.proofs.Common.{arith, ℕ, List, [], ◌≡◌, ◌/◌, get_or, length, ap, sym, ◌∙◌}
use Rattle.std.specs.Simd.{first_chunks}
use Rattle.limits.specs.Limits.{prompt_count}
use Rattle.prompts.specs.Region.{standing_long, standing_in}
use Rattle.prompts.specs.RegionLaws.{standing-row}
use Rattle.prompts.proofs.standing_at.Goals as goal

pub returns : goal.returns
unfolding prompt_count
returns c =
    let r = c.args.r.now in
    let all : length r / standing_long ≡ prompt_count = omega (arith, c.requires.r_len) in
    ap (λ (rows : List (List ℕ)). standing_in (get_or rows c.args.p []))
    (c.as_chunks.ensures.front ∙ ap (λ (n : ℕ). first_chunks standing_long n r) all)
    ∙ sym (standing-row r c.args.p)
