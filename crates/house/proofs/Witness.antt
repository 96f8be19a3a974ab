-- A run that uses every step and ends in Permission's yes on a screen that got the tap by gossip, so the theorems on
-- runs speak of something; and its end in a no, once a decline of the same showing has arrived there too. Assumes
-- nothing.
use native.Mathlib.Omega.{arith}
use mathlib.Core.Path.{◌≡◌, refl}
use mathlib.Core.Bool.{not}
use mathlib.Core.List.{◌∷◌}
use lib.Dec.{T}
use Rattle.lists.specs.TestLaws.{here}
use Rattle.limits.specs.Limits.{accept, decline}
use Rattle.tally.specs.declared.Tap.{Tap}
use Rattle.ledger.proofs.Cases.{at}
use Rattle.meaning.proofs.Cases.{tapped, says}
use Rattle.meaning.specs.Reply.{figures, permits}
use Rattle.meaning.specs.Request as request
use Rattle.meaning.specs.Step.{send}
use Rattle.house.specs.Consent.{answer_at}
use Rattle.house.specs.House.{House, open_house, put, grown, after_request, after_send}
use Rattle.house.specs.House.{asks, sends, Run, opened, onward}

-- two taps of one showing of prompt 7, the child's seat camera
childs : Tap
childs = tapped 5 1 7 1 accept

mothers : Tap
mothers = tapped 6 1 7 1 decline

-- screen 0 takes the child's accept, is asked, and sends; that gossip arrives at screen 1
tapped0 : House
tapped0 = after_request (open_house 3) 0 (request.tapped childs (at 0 0 0))

asked0 : House
asked0 = after_request tapped0 0 (request.asked 7 (at 1 0 0))

sent0 : House
sent0 = after_send asked0 0

pub yes_house : House
yes_house = after_request sent0 1 (request.told (send (asked0.book 0)))

-- screen 2 takes the mother's decline, and sends; that gossip arrives at screen 1
tapped2 : House
tapped2 = after_request yes_house 2 (request.tapped mothers (at 0 0 0))

sent2 : House
sent2 = after_send tapped2 2

pub no_house : House
no_house = after_request sent2 1 (request.told (send (tapped2.book 2)))

pub yes_run : Run 3 yes_house
unfolding tapped0 asked0 sent0 yes_house after_send
yes_run =
    onward (onward (onward (onward opened
    (asks 0 (omega arith) (request.tapped childs (at 0 0 0)) tt))
    (asks 0 (omega arith) (request.asked 7 (at 1 0 0)) tt))
    (sends 0 (omega arith)))
    (asks 1 (omega arith) (request.told (send (asked0.book 0))) here)

pub no_run : Run 3 no_house
unfolding tapped2 sent2 no_house after_send
no_run =
    onward (onward (onward yes_run
    (asks 2 (omega arith) (request.tapped mothers (at 0 0 0)) tt))
    (sends 2 (omega arith)))
    (asks 1 (omega arith) (request.told (send (tapped2.book 2))) here)

-- yes on screen 1 where the label is the accept's stamp, and where it is zeros
pub yes-said : T (permits (answer_at yes_house 1 7 (at 1 0 0))) × T (permits (answer_at yes_house 1 7 (at 0 0 0)))
unfolding says tapped childs open_house put grown after_request after_send tapped0
    asked0 sent0 yes_house
yes-said = (tt, tt)

-- Contested there, 1 and 1, and so no at both labels
pub no-said :
    (figures (answer_at no_house 1 7 (at 0 0 0)) ≡ 7 ∷ 3 ∷ 1 ∷ 1 ∷ 1 ∷ at 1 0 1)
    × T (not (permits (answer_at no_house 1 7 (at 1 0 0)))) × T (not (permits (answer_at no_house 1 7 (at 0 0 0))))
unfolding says tapped childs mothers open_house put grown after_request after_send
    tapped0 asked0 sent0 yes_house tapped2 sent2 no_house
no-said = (refl, tt, tt)
