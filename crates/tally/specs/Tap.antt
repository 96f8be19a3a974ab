-- A tap, its field rules, and a tap as one word. Assumes nothing.
use Rattle.std.specs.Prelude.{ℕ, ◌+◌, ◌*◌, ◌/◌, ◌%◌, ◌<◌, Bool, ◌&&◌, List, [], ◌∷◌, leb, ltb}
use Rattle.lists.specs.Tests.{all}
use Rattle.lists.specs.Order.{same_key}
use Rattle.limits.specs.Limits.{front_ends, serials, prompt_count, showings, accept, decline}
use Rattle.tally.specs.declared.Tap.{Tap}

-- the five fields in order
abbrev pub fields : Tap → List ℕ
fields t = t.front ∷ t.serial ∷ t.prompt ∷ t.showing ∷ t.answer ∷ []

-- two taps are the same exactly when all five agree
unfoldable pub same_tap : Tap → Tap → Bool
same_tap t u = same_key (fields t) (fields u)

-- front end (0 to 255), serial (32 bits), prompt (0 to 63), showing (1 to 65,535), answer (1 accept, 2 decline)
abbrev pub tap_rules : Tap → List Bool
tap_rules t =
    ltb t.front front_ends
    ∷ ltb t.serial serials
    ∷ ltb t.prompt prompt_count
    ∷ (leb 1 t.showing && ltb t.showing showings)
    ∷ (leb accept t.answer && leb t.answer decline)
    ∷ []

unfoldable pub tap_fits : Tap → Bool
tap_fits t = all (tap_rules t)

-- each field fits its bits of the word
pub record FitsBits (t : Tap) : Type 0 where
  pub front : t.front < 256
  pub serial : t.serial < 4294967296
  pub prompt : t.prompt < 64
  pub showing : t.showing < 65536
  pub answer : t.answer < 4

-- a tap as one word, from the top: front end 8 bits, serial 32, prompt 6, showing 16, answer 2
abbrev pub word_of : Tap → ℕ
word_of t = (((t.front * 4294967296 + t.serial) * 64 + t.prompt) * 65536 + t.showing) * 4 + t.answer

abbrev pub tap_of : ℕ → Tap
tap_of w =
    record {
      front = w / 4 / 65536 / 64 / 4294967296;
      serial = w / 4 / 65536 / 64 % 4294967296;
      prompt = w / 4 / 65536 % 64;
      showing = w / 4 % 65536;
      answer = w % 4;
    }
