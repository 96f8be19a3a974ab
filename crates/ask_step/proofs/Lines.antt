-- The lines of a question's stops, on a sound book and by the tests that lead to each. Assumes nothing.
use Prim.Native.Nat.{ℕ, ◌<◌}
use mathlib.Core.Path.{◌≡◌}
use mathlib.Core.Bool.{true, false}
use lib.Dec.{T, ltb}
use borrow.Author.Tests.{lt-ltb}
use Rattle.lists.specs.TestLaws.{is_true}
use Rattle.limits.specs.Limits.{prompt_count}
use Rattle.stamp.specs.Stamp.{Stamp, part, stamp_fits, at_most, excess}
use Rattle.meaning.specs.Book.{Book, known, sound, standing_at}
use Rattle.meaning.specs.BookLaws.{Sound, at-sound}
use Rattle.meaning.specs.Reply.{refusal, wait}
use Rattle.meaning.specs.Step.{ask_stops, answer_of, ask}

module _ (b : Book) (p : ℕ) (l : Stamp) (s : Sound b) (h : p < prompt_count) (f : T (stamp_fits b.screens l)) where
  pub line_3 : ltb (part (known b) b.me) (part l b.me) ≡ true → (ask b p l).reply ≡ refusal 3
  unfolding ask ask_stops
  line_3 e = rw (is_true (sound b) (at-sound b s), lt-ltb p prompt_count h, is_true (stamp_fits b.screens l) f, e)

  module _ (own : ltb (part (known b) b.me) (part l b.me) ≡ false) where
    pub line-wait : at_most l b.value ≡ false → (ask b p l).reply ≡ wait (excess l b.value)
    unfolding ask ask_stops
    line-wait e = rw (
      is_true (sound b) (at-sound b s),
      lt-ltb p prompt_count h,
      is_true (stamp_fits b.screens l) f,
      own,
      e,
    )

    pub line-answer : at_most l b.value ≡ true → (ask b p l).reply ≡ answer_of (standing_at b p) b.value
    unfolding ask ask_stops
    line-answer e = rw (
      is_true (sound b) (at-sound b s),
      lt-ltb p prompt_count h,
      is_true (stamp_fits b.screens l) f,
      own,
      e,
    )
