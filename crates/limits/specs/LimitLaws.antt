-- Laws: the few facts about the limits that proofs need, whatever the numbers are; no other proof opens them. Assumes
-- nothing.
use Rattle.std.specs.Prelude.{◌+◌, ◌<◌, ◌≤◌}
use Rattle.std.proofs.Common.{arith}
use Rattle.limits.specs.Limits.{most, parts, word, log_room, book_room, count_limit}

-- a stamp has a part for each screen
pub most-parts : most ≤ parts
unfolding most
most-parts = omega arith

-- a log has room for a record, and its count fits the two bytes that a message has for it
pub log-some : 0 < log_room
unfolding log_room
log-some = omega arith

pub log-counts : log_room < 65_536
unfolding log_room
log-counts = omega arith

-- the rooms are small beside what a count may reach, and what a book may know fits a part
pub log_small : log_room < count_limit
unfolding log_room
log_small = omega arith

pub book_small : book_room < count_limit
unfolding book_room
book_small = omega arith

pub book-word : book_room < word
unfolding book_room word
book-word = omega arith

-- .. also together: a step counts at most a log's taps beside those of the book
pub rooms_small : book_room + log_room < count_limit
unfolding book_room log_room
rooms_small = omega arith
