-- One turn and the end of the loop that meets two stamps, on the lists. Assumes nothing.
use Prim.Native.Nat.{ℕ, ◌+◌, ◌≤◌, ◌<◌, min}
use mathlib.Core.Path.{◌≡◌}
use mathlib.Core.List.{◌∷◌, ◌++◌, append-nil}
use lib.ListN.{length, take, drop, get_or, set, drop_of_length-le}
use lib.Seq.{take_all}
use Rattle.lists.specs.Scan.{rest, stored_more}
use Rattle.stamp.specs.Stamp.{Stamp}
use Rattle.book_log.specs.Lowest.{meet}

module _ (a b : Stamp) (i : ℕ) (ha : i < length a) (hb : i < length b) where
  meet-step : meet (drop i a) (drop i b) ≡ min (get_or a i 0) (get_or b i 0) ∷ meet (drop (i + 1) a) (drop (i + 1) b)
  meet-step = rw (rest a i ha, rest b i hb)

  pub meet-more :
      (v : ℕ) → v ≡ min (get_or a i 0) (get_or b i 0)
      → take i a ++ meet (drop i a) (drop i b)
      ≡ take (i + 1) (set a i v) ++ meet (drop (i + 1) (set a i v)) (drop (i + 1) b)
  meet-more v e = rw (meet-step, ← e) (stored_more (λ r. meet r (drop (i + 1) b)) a i v ha)

pub meet-end : (a b : Stamp) (i : ℕ) → length a ≤ i → take i a ++ meet (drop i a) (drop i b) ≡ a
meet-end a b i h = rw (drop_of_length-le a h, take_all i a h) (append-nil a)
