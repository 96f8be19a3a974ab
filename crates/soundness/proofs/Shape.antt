-- The numbers in front of a slice and the pieces behind them, as they are read. Assumes nothing.
use Prim.Native.Nat.{ℕ, ◌*◌, ◌≤◌, ◌<◌}
use native.Mathlib.Omega.{arith}
use mathlib.Core.Path.{◌≡◌, refl, sym, subst, ◌∙◌}
use mathlib.Core.List.{List}
use mathlib.Core.Bool.{true, ◌&&◌}
use lib.Dec.{T, leb, leb→le}
use Rattle.lists.specs.TestLaws.{given}
use lib.ListN.{get_or, take}
use Rattle.lists.specs.Rows.{rows}
use Rattle.lists.specs.Tests.{all}
use Rattle.limits.specs.Limits.{parts, most, log_room, book_room}
use Rattle.ledger.specs.Message.{in_range}
use Rattle.ledger.specs.LimitLaws.{range-me}
use Rattle.lent.specs.WordsLaws.{screens-few, log-few, counted-few}
use Rattle.book_log.specs.Region.{row_long, records_of, records_at}
use Rattle.taps.specs.Region.{word_taps, taps_at}
use Rattle.prompts.specs.Region.{standings_at}
use Rattle.lent.specs.Lay.{number_word}
use Rattle.lent.specs.Words.{Screen, Screens, Logged, Taps, Table, Value, Log, Counted, Prompts}
use Rattle.lent.specs.Words.{size, from, piece, number_in, zero_from, in_shape}
use Rattle.soundness.specs.Clauses.{piece_rules}
use Rattle.soundness.specs.SoundLaws.{Numbers, number_rules, zero_rules, word_rules}

module _ (ws : List ℕ) where
  pub screen : number_in Screen ws ≡ get_or ws 0 0
  unfolding size from
  screen = number_word ws Screen refl

  pub screens : number_in Screens ws ≡ get_or ws 1 0
  unfolding size from
  screens = number_word ws Screens refl

  pub logged : number_in Logged ws ≡ get_or ws 2 0
  unfolding size from
  logged = number_word ws Logged refl

  pub taps : number_in Taps ws ≡ get_or ws 3 0
  unfolding size from
  taps = number_word ws Taps refl

  pub numbers_read :
      all (number_rules ws)
      ≡ (leb (get_or ws 1 0) most && (leb (get_or ws 2 0) log_room && (leb (get_or ws 3 0) book_room && true)))
  numbers_read = rw (screens, logged, taps)

  pub zeros_read :
      all (zero_rules ws)
      ≡ (zero_from (get_or ws 1 0 * parts) (piece Table ws)
      && (zero_from (get_or ws 2 0 * row_long) (piece Log ws)
      && (zero_from (get_or ws 3 0) (piece Counted ws) && true)))
  zeros_read = rw (screens, logged, taps)

  pub range_read : in_range (number_in Screen ws) (number_in Screens ws) ≡ in_range (get_or ws 0 0) (get_or ws 1 0)
  range_read = rw (screen, screens)

  -- the numbers within their places
  pub placed : Numbers ws → (get_or ws 0 0 < get_or ws 1 0) × (get_or ws 1 0 ≤ most) × (get_or ws 2 0 ≤ log_room)
      × (get_or ws 3 0 ≤ book_room)
  placed n = (
    omega (arith, n.screen, screen, screens),
    omega (arith, n.screens, screens),
    omega (arith, n.logged, logged),
    omega (arith, n.taps, taps),
  )

  pub rooms_kept : T (all (number_rules ws)) → (get_or ws 1 0 ≤ most) × (get_or ws 2 0 ≤ log_room)
  rooms_kept t =
      given (number_rules ws) t
      (λ screens-few log-few taps-few. (
        omega (arith, screens, leb→le (number_in Screens ws) most screens-few),
        omega (arith, logged, leb→le (number_in Logged ws) log_room log-few),
      ))

  -- and those of a slice in shape, its screen below its screens
  pub numbers_of : in_shape ws ≡ true → in_range (get_or ws 0 0) (get_or ws 1 0) ≡ true → Numbers ws
  numbers_of e f =
      let shape = subst T (sym e) tt in
      record {
        screen = range-me (number_in Screen ws) (number_in Screens ws) (subst T (sym (range_read ∙ f)) tt);
        screens = screens-few ws shape;
        logged = log-few ws shape;
        taps = counted-few ws shape;
      }

  -- the pieces as they are lent
  pub pieces_read :
      all (piece_rules (get_or ws 0 0) (rows parts (get_or ws 1 0) (piece Table ws)) (piece Value ws)
      (records_of (rows row_long (get_or ws 2 0) (piece Log ws))) (word_taps (take (get_or ws 3 0) (piece Counted ws)))
      (standings_at (piece Prompts ws)))
      ≡ all (word_rules ws)
  unfolding word_rules records_at taps_at
  pieces_read = rw (screen, screens, logged, taps)
