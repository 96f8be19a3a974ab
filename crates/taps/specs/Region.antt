-- The counted taps as words: one word for each tap, the first n of a region in use, strictly rising, the rest zero.
-- Assumes nothing.
use Rattle.std.specs.Prelude.{ℕ, ◌+◌, ◌-◌, List, ◌++◌, map, length, take, drop, replicate}
use Rattle.lists.specs.Order.{insert}
use Rattle.tally.specs.Tap.{fields, word_of, tap_of}
use Rattle.tally.specs.declared.Tap.{Tap}

-- the taps that some words hold, and that the first n words of a region hold
abbrev pub word_taps : List ℕ → List Tap
word_taps words = map tap_of words

unfoldable pub taps_at : ℕ → List ℕ → List Tap
taps_at n r = word_taps (take n r)

-- some taps over a region of so many words
unfoldable pub tap_words : ℕ → List Tap → List ℕ
tap_words room ts = map word_of ts ++ replicate (room - length ts) 0

-- the region with the tap of w in its place among those of the first n words
unfoldable pub inserted_at : ℕ → ℕ → List ℕ → List ℕ
inserted_at n w r = map word_of (insert fields (tap_of w) (taps_at n r)) ++ drop (n + 1) r
