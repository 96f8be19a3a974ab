-- The numbers of the kinds of message, each once. Assumes nothing.
use Rattle.std.specs.Prelude.{ℕ}

abbrev pub head_number : ℕ
head_number = 1

abbrev pub record_number : ℕ
record_number = 2

abbrev pub tap_number : ℕ
tap_number = 3

abbrev pub question_number : ℕ
question_number = 4

abbrev pub taken_number : ℕ
taken_number = 5

abbrev pub already_number : ℕ
already_number = 6

abbrev pub verdict_number : ℕ
verdict_number = 7

abbrev pub wait_number : ℕ
wait_number = 8

abbrev pub refusal_number : ℕ
refusal_number = 9

abbrev pub gossip_taken_number : ℕ
gossip_taken_number = 10

abbrev pub open_number : ℕ
open_number = 11

abbrev pub send_number : ℕ
send_number = 12
