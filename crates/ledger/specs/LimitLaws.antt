-- Laws: the range of a house. Assumes nothing.
use Rattle.std.specs.Prelude.{ℕ, ◌<◌, ◌≤◌, T}
use Rattle.std.proofs.Common.{arith, ltb→lt, leb→le, le→leb, lt→ltb}
use Rattle.lists.specs.TestLaws.{given, all_from, ◌also◌, done}
use Rattle.limits.specs.LimitLaws.{most-parts}
use Rattle.limits.specs.Limits.{parts, fewest, most}
use Rattle.ledger.specs.Message.{in_range, range_rules}

-- i is below N, N is 2 to 8, and so a stamp has a part for each screen
pub range-me : (i n : ℕ) → T (in_range i n) → i < n
unfolding in_range
range-me i n t = given (range_rules i n) t (λ at_least_lem at_most below. ltb→lt i n below)

pub range-most : (i n : ℕ) → T (in_range i n) → n ≤ most
unfolding in_range
range-most i n t = given (range_rules i n) t (λ at_least_lem at_most below. leb→le n most at_most)

pub range-parts : (i n : ℕ) → T (in_range i n) → n ≤ parts
range-parts i n t = omega (arith, most-parts, range-most i n t)

pub range-from : (i n : ℕ) → fewest ≤ n → n ≤ most → i < n → T (in_range i n)
unfolding in_range
range-from i n lo hi h =
    all_from {cs = range_rules i n} (le→leb fewest n lo also le→leb n most hi also lt→ltb i n h also done)
