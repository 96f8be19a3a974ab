-- `prompts::put_standing` meets its contract. Assumes nothing.
use Rattle.std.specs.Prelude.{ℕ, zero, suc, ◌+◌, ◌-◌, ◌*◌, ◌<◌, ◌≡◌, refl, List, [], ◌∷◌, ◌++◌, length, take, drop, set}
use Rattle.std.proofs.Common.{arith, ap, ◌∙◌}
use Rattle.limits.specs.Limits.{prompt_count}
use Rattle.prompts.specs.Region.{standing_long}
use Rattle.prompts.specs.RegionLaws.{words-set}
use Rattle.prompts.proofs.put_standing.Goals as goal

-- three words put over those at a place
put-three : (r : List ℕ) (at a b c : ℕ) → at + 2 < length r
    → take at r ++ (a ∷ b ∷ c ∷ drop standing_long (drop at r)) ≡ set (set (set r at a) (at + 1) b) (at + 2) c
put-three [] at a b c h = absurd (omega arith)
put-three (x ∷ []) zero a b c h = absurd (omega arith)
put-three (x ∷ y ∷ []) zero a b c h = absurd (omega arith)
put-three (x ∷ y ∷ z ∷ r) zero a b c h = refl
put-three (x ∷ r) (suc at) a b c h =
    let e : suc at + 1 ≡ suc (at + 1) = omega arith in
    let f : suc at + 2 ≡ suc (at + 2) = omega arith in
    rw (e, f) (ap (λ (l : List ℕ). x ∷ l) (put-three r at a b c (omega arith)))

pub returns : goal.returns
unfolding prompt_count
returns c =
    let s = c.args in
    let at = s.p * standing_long in
    let e : at + standing_long - at ≡ standing_long = omega arith in
    let l : at + 2 < length s.r.now = omega (arith, c.requires.r_len, c.requires.p_lt_prompt_count) in
    rw (c.copy_from_slice.ensures.after, e)
    (put-three s.r.now at s.s.showing s.s.accepts s.s.declines l
    ∙ words-set s.r.now s.p s.s c.requires.r_len c.requires.p_lt_prompt_count)
