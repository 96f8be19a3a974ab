-- One turn and the end of each loop over bytes, on the lists and numbers. Assumes nothing.
use Prim.Native.Nat.{ℕ, zero, suc, ◌+◌, ◌-◌, ◌*◌, ◌/◌, ◌%◌, ◌^◌, ◌≤◌, ◌<◌}
use native.Mathlib.Nat.{pow-suc, pow-le-pow_right, le_refl}
use native.Mathlib.Numerals.{add-one}
use native.Mathlib.Omega.{arith}
use mathlib.Core.Path.{◌≡◌, refl, sym}
use mathlib.Core.Bool.{Bool, true, false}
use mathlib.Core.List.{List, ◌++◌, append_assoc}
use lib.Dec.{ltb, lit<}
use lib.ListN.{length, drop, get_or, set}
use lib.Seq.{get_or-set_same, drop-set-lt, drop-cons, lt-length-set}
use borrow.Author.Tests.{ltb-true, ltb-false, lt-ltb, le-ltb}
use Rattle.lists.specs.Scan.{rest}
use Rattle.lists.specs.Part.{length-mid}
use Rattle.numbers.specs.Number.{number_from, bytes_of}

pub number_more : (s : List ℕ) (i n : ℕ) → i < length s
    → number_from n (drop i s) ≡ number_from (n * 256 + get_or s i 0) (drop (i + 1) s)
unfolding number_from
number_more s i n h = rw (rest s i h)

pub number_grows : (i n x : ℕ) → n < 256 ^ i → x < 256 → n * 256 + x < 256 ^ (i + 1)
number_grows i n x h l = rw (add-one, pow-suc) (omega arith)

pub number_fits : (i n x : ℕ) → n < 256 ^ i → x < 256 → i < 8 → n * 256 + x < 2 ^ 64
number_fits i n x h l k =
    let e : i + 1 ≤ 8 = omega arith in
    omega (arith, number_grows i n x h l, pow-le-pow_right {n = 256} (lit< tt) e)

pub put_more : (s : List ℕ) (i m : ℕ) → 0 < i → i ≤ length s
    → bytes_of i m ++ drop i s ≡ bytes_of (i - 1) (m / 256) ++ drop (i - 1) (set s (i - 1) (m % 256))
unfolding bytes_of
put_more s zero m h l = absurd (omega arith)
put_more s (suc i) m h l =
    let e : suc i - 1 ≡ i = omega arith in
    rw (
      e,
      drop-cons (set s i (m % 256)) i 0 (lt-length-set s i (m % 256) l),
      get_or-set_same s i (m % 256) 0 l,
      drop-set-lt (suc i) s i (m % 256) (le_refl (suc i)),
      append_assoc,
    )

same_test : (a b c d : ℕ) → (a < b → c < d) → (b ≤ a → d ≤ c) → ltb a b ≡ ltb c d
same_test a b c d f g = on (ltb a b) refl
  where
    on : (p : Bool) → ltb a b ≡ p → p ≡ ltb c d
    on true e = sym (lt-ltb c d (f (ltb-true a b e)))
    on false e = sym (le-ltb c d (g (ltb-false a b e)))

pub width_more : (m i w : ℕ) → i < w → ltb m (256 ^ (w - i)) ≡ ltb (m / 256) (256 ^ (w - (i + 1)))
width_more m i w h =
    let k = w - (i + 1) in
    let e : w - i ≡ suc k = omega arith in
    rw (e, pow-suc 256 k) (same_test m (256 ^ k * 256) (m / 256) (256 ^ k) (λ l. omega arith) (λ l. omega arith))

pub width-end : (i : ℕ) → ltb 0 (256 ^ i) ≡ true
width-end i = lt-ltb 0 (256 ^ i) (omega (arith, pow-le-pow_right {n = 256} (lit< tt) {i = 0} {j = i} (omega arith)))

-- what `number_of` goes by, and what a part at a place goes by
pub ruleset bytes_read = (number_more, number_grows, number_fits)

pub ruleset part_at = (length-mid)
