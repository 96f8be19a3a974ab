-- Taps on the practice car: document 01's starred cases A to L as one table, the order of refusals as another, and as a
-- third what answers and refusals go by; one claim. Assumes nothing.
use Rattle.std.specs.Prelude.{ℕ, suc, ◌≡◌, refl, Bool, false, true}
use mathlib.Core.List.{List, [], ◌∷◌, flat_map}
use Rattle.std.proofs.Math.Option.{none, some}
use Rattle.lists.specs.Table.{agrees}
use Rattle.lists.specs.Tests.{first_of}
use Rattle.limits.specs.Limits.{word, front_ends, serials, prompt_count, showings, accept, decline, book_room, fewest}
use Rattle.limits.specs.Limits.{most, log_room}
use Rattle.stamp.specs.Stamp.{Stamp, zeros, stamp_fits}
use Rattle.tally.specs.Body.{says as said_tap, body_word, body_of, body_fits, taps_in}
use Rattle.tally.specs.Standing.{among, of_prompt, how_many, standing, standing_of, afresh, unasked, accepted, declined}
use Rattle.tally.specs.Standing.{contested, verdict_of, one_if, noted, count}
use Rattle.tally.specs.Tap.{same_tap, tap_fits}
use Rattle.tally.specs.declared.Tap.{Tap}
use Rattle.ledger.proofs.Cases.{at, places_of}
use Rattle.ledger.specs.Log.{unknowns, gathered, ready_stamp, newly_applied, remaining, waiting_in, all_held, gapless}
use Rattle.ledger.specs.Message.{Message, in_range, message_fits}
use Rattle.ledger.specs.Record.{Record, stamp_of, knows, is_known, is_applied, is_waiting, everywhere, may_go, has}
use Rattle.ledger.specs.Record.{record_fits}
use Rattle.meaning.specs.Book.{fresh, waiting, known, ready, row, standing_at, holds, counted_in, clauses, sound}
use Rattle.meaning.specs.Reply.{figures, Reply}
use Rattle.meaning.specs.Step.{send, Outcome, tap_step, gossip_step, ask, open_stops, send_stops, now_ready}
use Rattle.meaning.specs.Step.{now_applied, taps_of, now_noted, settle, new_record, own_rows, take_book, tap_stops}
use Rattle.meaning.specs.Step.{ask_stops, answer_of, new_ones, gossip_rows, gossip_stops, hear_book}

-- front end, serial, prompt, showing, answer
unfoldable pub tapped : ℕ → ℕ → ℕ → ℕ → ℕ → Tap
tapped f s p h a = record { front = f; serial = s; prompt = p; showing = h; answer = a }

-- the record with number q of origin k that says the tap, at a label
saying : Tap → ℕ → ℕ → Stamp → Record
saying t k q l = record { origin = k; number = q; label = l; body = body_word (said_tap t) }

-- sender, N, stamp, records
message : ℕ → ℕ → Stamp → List Record → Message
message j n s rs = record { sender = j; screens = n; stamp = s; records = rs }

-- what a step says; who unfolds this computes with all that the steps are made of
unfoldable pub says : Outcome → List ℕ
unfolding word zeros stamp_fits front_ends serials prompt_count showings accept decline same_tap tap_fits body_word
    body_of body_fits taps_in among one_if noted count of_prompt how_many standing_of standing afresh unasked accepted
    declined
    contested verdict_of fewest most log_room book_room in_range message_fits stamp_of knows is_known is_applied
    is_waiting
    everywhere may_go has record_fits unknowns gathered ready_stamp newly_applied remaining waiting_in all_held
    gapless row
    known ready standing_at waiting fresh holds counted_in clauses sound now_ready now_applied taps_of now_noted
    settle new_record own_rows take_book tap_stops tap_step ask_stops answer_of ask send new_ones gossip_rows hear_book
    gossip_stops gossip_step flat_map
says o = figures o.reply

stopped : List (Bool × Reply) → List ℕ
unfolding open_stops send_stops
stopped stops = elim (first_of stops) [ none ↦ [] | some r ↦ figures r ]

-- the taps of cases A and B
tap_a : Tap
tap_a = tapped 5 1 7 1 1

tap_b : Tap
tap_b = tapped 5 2 7 1 2

A : Outcome
A = tap_step (fresh 0 3) tap_a (at 0 0 0)

B : Outcome
B = tap_step A.book tap_b (at 0 0 0)

E : Outcome
E = gossip_step (fresh 1 3) (send B.book)

G : Outcome
G = tap_step (fresh 2 3) (tapped 6 1 7 2 1) (at 1 0 0)

H : Outcome
H = gossip_step G.book (send B.book)

-- on a fresh 0 B's tap is counted; then A's tap waits for a record of 1
counts : Outcome
counts = tap_step (fresh 0 3) tap_b (at 0 0 0)

waits : Outcome
waits = tap_step counts.book tap_a (at 0 9 0)

-- a fresh 1 gets A's tap in two records, of 0 and of 2, and both wait
waits_twice : Outcome
waits_twice = gossip_step (fresh 1 3)
    (message 0 3 (at 1 0 1) (saying tap_a 0 1 (at 0 0 9) ∷ saying tap_a 2 1 (at 9 0 0) ∷ []))

-- what the definitions give, beside what the document says
pub starred : List (List ℕ × List ℕ)
starred =
    -- A. Taken (1,0,0). Question 7 at (1,0,0): Accepted, showing 1, 1 and 0
    (says A, 5 ∷ at 1 0 0)
    ∷ (says (ask A.book 7 (at 1 0 0)), 7 ∷ 1 ∷ 1 ∷ 1 ∷ 0 ∷ at 1 0 0)
    -- B. Taken (2,0,0); Contested, 1 and 1
    ∷ (says B, 5 ∷ at 2 0 0)
    ∷ (says (ask B.book 7 (at 2 0 0)), 7 ∷ 3 ∷ 1 ∷ 1 ∷ 1 ∷ at 2 0 0)
    -- C. A's tap again: Already (2,0,0)
    ∷ (says (tap_step B.book tap_a (at 0 0 0)), 6 ∷ at 2 0 0)
    -- D. Fresh 1, question at (1,0,0): Wait 0x01
    ∷ (says (ask (fresh 1 3) 7 (at 1 0 0)), 8 ∷ 1 ∷ [])
    -- E. 1 gets 0's gossip sent after B: 2 new, 2 applied; its log keeps both, records 1 and 2 of 0
    ∷ (says E, 10 ∷ 2 ∷ 2 ∷ [])
    ∷ (places_of E.book.log, 0 ∷ 1 ∷ 0 ∷ 2 ∷ [])
    -- F. The same message again: 4
    ∷ (says (gossip_step E.book (send B.book)), 9 ∷ 4 ∷ [])
    -- G. Taken (1,0,1), waiting: record 1 of 2. Question at zero: Unasked. At (1,0,1): Wait 0x05
    ∷ (says G, 5 ∷ at 1 0 1)
    ∷ (places_of (waiting G.book), 2 ∷ 1 ∷ [])
    ∷ (says (ask G.book 7 (at 0 0 0)), 7 ∷ 0 ∷ 0 ∷ 0 ∷ 0 ∷ at 0 0 0)
    ∷ (says (ask G.book 7 (at 1 0 1)), 8 ∷ 5 ∷ [])
    -- H. 2 then gets E's message: 2 new, 3 applied, value stamp (2,0,1), Accepted at showing 2
    ∷ (says H, 10 ∷ 2 ∷ 3 ∷ [])
    ∷ (H.book.value, at 2 0 1)
    ∷ (says (ask H.book 7 (at 2 0 1)), 7 ∷ 1 ∷ 2 ∷ 1 ∷ 0 ∷ at 2 0 1)
    -- I. After B on 0, label (3,0,0): 3. Label (2,0,0), a new tap: Taken (3,0,0)
    ∷ (says (tap_step B.book (tapped 5 3 7 1 1) (at 3 0 0)), 9 ∷ 3 ∷ [])
    ∷ (says (tap_step B.book (tapped 5 3 7 1 1) (at 2 0 0)), 5 ∷ at 3 0 0)
    -- J. Fresh 1, from 0, stamp (2,0,0), only record 2 of 0: 8
    ∷ (says (gossip_step (fresh 1 3) (message 0 3 (at 2 0 0) (saying tap_b 0 2 (at 0 0 0) ∷ []))), 9 ∷ 8 ∷ [])
    -- K. Fresh 1, from 0, stamp (0,1,0): 6
    ∷ (says (gossip_step (fresh 1 3) (message 0 3 (at 0 1 0) [])), 9 ∷ 6 ∷ [])
    -- L. After H on 2, from 0, stamp (1,1,0): 5
    ∷ (says (gossip_step H.book (message 0 3 (at 1 1 0) [])), 9 ∷ 5 ∷ [])
    ∷ []

-- where two stops hold, the reply is that of the earlier
pub ordered : List (List ℕ × List ℕ)
ordered =
    -- open: 11 before 2; send: 11 before 12
    (stopped (open_stops false 3 3), 9 ∷ 11 ∷ [])
    ∷ (stopped (open_stops true 3 3), 9 ∷ 2 ∷ [])
    ∷ (stopped (send_stops false 37 36), 9 ∷ 11 ∷ [])
    ∷ (stopped (send_stops true 37 36), 9 ∷ 12 ∷ [])
    -- tap: 11 before 1, 1 before 3, 3 before Already
    ∷ (says (tap_step (fresh 3 3) (tapped 5 1 7 1 0) (at 0 0 0)), 9 ∷ 11 ∷ [])
    ∷ (says (tap_step B.book (tapped 5 1 7 1 0) (at 3 0 0)), 9 ∷ 1 ∷ [])
    ∷ (says (tap_step B.book tap_a (at 3 0 0)), 9 ∷ 3 ∷ [])
    -- question: 11 before 1, 1 before 3, 3 before Wait
    ∷ (says (ask (fresh 3 3) 64 (at 0 0 0)), 9 ∷ 11 ∷ [])
    ∷ (says (ask B.book 64 (at 3 0 0)), 9 ∷ 1 ∷ [])
    ∷ (says (ask B.book 7 (at 3 0 0)), 9 ∷ 3 ∷ [])
    -- gossip: 11 before 1, 1 before 2, 2 before 4, 5 before 6, 6 before 7, 7 before 8
    ∷ (says (gossip_step (fresh 3 3) (message 4 4 (at 0 0 0) [])), 9 ∷ 11 ∷ [])
    ∷ (says (gossip_step B.book (message 4 4 (at 0 0 0) [])), 9 ∷ 1 ∷ [])
    ∷ (says (gossip_step B.book (message 0 3 (at 1 0 0) [])), 9 ∷ 2 ∷ [])
    ∷ (says (gossip_step E.book (message 0 3 (at 0 1 0) [])), 9 ∷ 5 ∷ [])
    ∷ (says (gossip_step E.book (message 0 3 (at 2 (suc book_room) 0) [])), 9 ∷ 6 ∷ [])
    ∷ (says (gossip_step E.book (message 0 3 (at (suc book_room) 0 0) [])), 9 ∷ 7 ∷ [])
    ∷ []

-- where another stamp or record is near at hand
pub judged : List (List ℕ × List ℕ)
judged =
    -- Already: a counted tap with the value stamp, not the known one; a waiting one with its first log record's, not
    -- the last's
    (says (tap_step waits.book tap_b (at 0 0 0)), 6 ∷ at 1 0 0)
    ∷ (says (tap_step waits.book tap_a (at 0 0 0)), 6 ∷ at 2 9 0)
    ∷ (says (tap_step waits_twice.book tap_a (at 0 0 0)), 6 ∷ at 1 0 9)
    -- 3 by the known stamp, not the value stamp: the label may be the stamp of our own waiting record
    ∷ (says (tap_step G.book tap_a (at 1 0 1)), 5 ∷ at 1 0 2)
    -- 4 by row j and 6 by the known stamp: a message may tell just what we know, our own waiting record too
    ∷ (says (gossip_step G.book (message 1 3 (at 0 0 1) [])), 10 ∷ 0 ∷ 0 ∷ [])
    ∷ []

-- the definitions give each line
pub practice : (agrees starred ≡ true) × (agrees ordered ≡ true) × (agrees judged ≡ true)
unfolding tapped saying message says stopped tap_a tap_b A B E G H counts waits waits_twice starred ordered judged
practice = (refl, refl, refl)
