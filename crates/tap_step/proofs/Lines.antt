-- The lines of a tap's stops, on a sound book and by the tests that lead to each. Assumes nothing.
use mathlib.Core.Path.{◌≡◌}
use mathlib.Core.Bool.{true, false}
use mathlib.Core.Option.{none, some}
use lib.Dec.{T, ltb, leb}
use lib.ListN.{length}
use Rattle.lists.specs.TestLaws.{is_true}
use Rattle.lists.specs.Tests.{exists, first_of}
use Rattle.limits.specs.Limits.{book_room, log_room}
use Rattle.stamp.specs.Stamp.{Stamp, part, stamp_fits, total}
use Rattle.tally.specs.Standing.{among}
use Rattle.tally.specs.Tap.{tap_fits}
use Rattle.tally.specs.declared.Tap.{Tap}
use Rattle.meaning.specs.Book.{Book, known, sound, holds}
use Rattle.meaning.specs.BookLaws.{Sound, at-sound}
use Rattle.meaning.specs.Reply.{refusal, already}
use Rattle.meaning.specs.Step.{first_stamp, tap_stops}

module _ (b : Book) (t : Tap) (l : Stamp) (s : Sound b) (f : T (tap_fits t)) (g : T (stamp_fits b.screens l)) where
  pub line_3 : ltb (part (known b) b.me) (part l b.me) ≡ true → first_of (tap_stops b t l) ≡ some (refusal 3)
  unfolding tap_stops
  line_3 e = rw (is_true (sound b) (at-sound b s), is_true (tap_fits t) f, is_true (stamp_fits b.screens l) g, e)

  module _ (own : ltb (part (known b) b.me) (part l b.me) ≡ false) where
    pub line-counted : among b.counted t ≡ true → first_of (tap_stops b t l) ≡ some (already b.value)
    unfolding tap_stops
    line-counted e = rw (
      is_true (sound b) (at-sound b s),
      is_true (tap_fits t) f,
      is_true (stamp_fits b.screens l) g,
      own,
      e,
    )

    module _ (new : among b.counted t ≡ false) where
      pub line-logged : exists (holds t) b.log ≡ true
          → first_of (tap_stops b t l) ≡ some (already (first_stamp t b.log))
      unfolding tap_stops
      line-logged e = rw (
        is_true (sound b) (at-sound b s),
        is_true (tap_fits t) f,
        is_true (stamp_fits b.screens l) g,
        own,
        new,
        e,
      )

      module _ (unlogged : exists (holds t) b.log ≡ false) where
        pub line_7 : leb book_room (total (known b)) ≡ true → first_of (tap_stops b t l) ≡ some (refusal 7)
        unfolding tap_stops
        line_7 e = rw (
          is_true (sound b) (at-sound b s),
          is_true (tap_fits t) f,
          is_true (stamp_fits b.screens l) g,
          own,
          new,
          unlogged,
          e,
        )

        module _ (left : leb book_room (total (known b)) ≡ false) where
          pub line_9 : leb log_room (length b.log) ≡ true → first_of (tap_stops b t l) ≡ some (refusal 9)
          unfolding tap_stops
          line_9 e = rw (
            is_true (sound b) (at-sound b s),
            is_true (tap_fits t) f,
            is_true (stamp_fits b.screens l) g,
            own,
            new,
            unlogged,
            left,
            e,
          )

          pub line_clear : leb log_room (length b.log) ≡ false → first_of (tap_stops b t l) ≡ none
          unfolding tap_stops
          line_clear e = rw (
            is_true (sound b) (at-sound b s),
            is_true (tap_fits t) f,
            is_true (stamp_fits b.screens l) g,
            own,
            new,
            unlogged,
            left,
            e,
          )
