-- What a record's body says, in one word: a tap. Assumes nothing.
use Rattle.std.specs.Prelude.{ℕ, Bool, List, [], ◌∷◌}
use Rattle.tally.specs.Tap.{tap_fits, word_of, tap_of}
use Rattle.tally.specs.declared.Tap.{Tap}

-- a new kind of body is a case here and in what follows, and nowhere in the ledger
pub data Body : Type 0 where
  says : Tap → Body

abbrev pub said_fits : Body → Bool
said_fits (says t) = tap_fits t

-- one word for each body, and the body that a word holds
unfoldable pub body_word : Body → ℕ
body_word (says t) = word_of t

unfoldable pub body_of : ℕ → Body
body_of w = says (tap_of w)

-- the rule of a body: what it says keeps the field rules
unfoldable pub body_fits : ℕ → Bool
body_fits w = said_fits (body_of w)

-- the taps that count once the record is applied
abbrev pub taps_said : Body → List Tap
taps_said (says t) = t ∷ []

unfoldable pub taps_in : ℕ → List Tap
taps_in w = taps_said (body_of w)
