-- One page of numbers: every limit of the house, of a stamp, of the book and of a tap, each once; lengths are worked
-- out from them where they are used. Assumes nothing.
use Rattle.std.specs.Prelude.{ℕ}

-- the fewest and the most screens of a house
unfoldable pub fewest : ℕ
fewest = 2

unfoldable pub most : ℕ
most = 8

-- a stamp's parts
abbrev pub parts : ℕ
parts = 8

-- a part is a number of 32 bits: it stands below this
unfoldable pub word : ℕ
word = 4_294_967_296

-- records in a log, and in a message
unfoldable pub log_room : ℕ
log_room = 256

-- records that a book may know
unfoldable pub book_room : ℕ
book_room = 1_024

-- how many front ends, serials, prompts and showings there are, counted from 0
unfoldable pub front_ends : ℕ
front_ends = 256

unfoldable pub serials : ℕ
serials = 4_294_967_296

unfoldable pub prompt_count : ℕ
prompt_count = 64

unfoldable pub showings : ℕ
showings = 65_536

-- the two answers
unfoldable pub accept : ℕ
accept = 1

unfoldable pub decline : ℕ
decline = 2

-- what each count of a prompt stands below, so that one more fits
abbrev pub count_limit : ℕ
count_limit = 4_294_967_296
