-- A book on a slice of numbers of one fixed length: its pieces, one after the other. Each content has one layout,
-- unused places zero. A new piece is a name, its tag, its entry in `piece_of` and its place in `order`. Assumes
-- nothing.
use Rattle.std.specs.Prelude.{ℕ, suc, ◌-◌, ◌*◌, Bool, true, ◌&&◌, cond, List, [], ◌∷◌, ◌++◌, map, eqb, leb, length}
use Rattle.std.specs.Prelude.{get_or, take, drop, replicate}
use Rattle.lists.specs.Part.{mid}
use Rattle.lists.specs.Pieces.{sum_of}
use Rattle.lists.specs.Rows.{rows, flat}
use Rattle.lists.specs.Tests.{all, every}
use Rattle.limits.specs.Limits.{parts, most, log_room, book_room, prompt_count}
use Rattle.stamp.specs.Stamp.{Stamp}
use Rattle.book_log.specs.Region.{row_long, records_at, log_words}
use Rattle.taps.specs.Region.{taps_at, tap_words}
use Rattle.prompts.specs.Region.{prompt_words, standings_at, standing_words}
use Rattle.meaning.specs.Book.{Book, sound}
use Rattle.lent.specs.With.{no_book, with_me, with_screens, with_table, with_value, with_log, with_counted}
use Rattle.lent.specs.With.{with_prompts}

-- the pieces' names: i, N, how many records the log has, how many taps are counted; the table, the value stamp, the
-- log, the counted taps, the prompts
pub data Name : Type 0 where
  Screen Screens Logged Taps Table Value Log Counted Prompts : Name

-- each name's own number, by which it is found: it says nothing of the piece's place
abbrev pub tag : Name → ℕ
tag Screen = 0
tag Screens = 1
tag Logged = 2
tag Taps = 3
tag Table = 4
tag Value = 5
tag Log = 6
tag Counted = 7
tag Prompts = 8

-- the words of every piece, and the number that is a piece of one word
abbrev pub Words : Type 0
Words = Name → List ℕ

abbrev pub number : Words → Name → ℕ
number w n = get_or (w n) 0 0

-- a piece: how many words it has, the book's words there, what they hold put back into a book, and what they keep
pub record Piece : Type 0 where
  pub long : ℕ
  pub words : Book → List ℕ
  pub back : Words → Book → Book
  pub rule : Words → Bool

unfoldable pub table_words : List Stamp → List ℕ
table_words rows = flat rows ++ replicate ((most - length rows) * parts) 0

abbrev pub zero_from : ℕ → List ℕ → Bool
zero_from n ws = every (λ x. eqb x 0) (drop n ws)

abbrev pub piece_of : Name → Piece
piece_of Screen = record { long = 1; words = λ b. b.me ∷ []; back = λ w. with_me (number w Screen); rule = λ w. true }
piece_of Screens =
    record {
      long = 1;
      words = λ b. b.screens ∷ [];
      back = λ w. with_screens (number w Screens);
      rule = λ w. leb (number w Screens) most;
    }
piece_of Logged = record {
  long = 1;
  words = λ b. length b.log ∷ [];
  back = λ w b. b;
  rule = λ w. leb (number w Logged) log_room;
}
piece_of Taps = record {
  long = 1;
  words = λ b. length b.counted ∷ [];
  back = λ w b. b;
  rule = λ w. leb (number w Taps) book_room;
}
piece_of Table =
    record {
      long = most * parts;
      words = λ b. table_words b.table;
      back = λ w. with_table (rows parts (number w Screens) (w Table));
      rule = λ w. zero_from (number w Screens * parts) (w Table);
    }
piece_of Value = record { long = parts; words = λ b. b.value; back = λ w. with_value (w Value); rule = λ w. true }
piece_of Log =
    record {
      long = log_room * row_long;
      words = λ b. log_words log_room b.log;
      back = λ w. with_log (records_at (number w Logged) (w Log));
      rule = λ w. zero_from (number w Logged * row_long) (w Log);
    }
piece_of Counted =
    record {
      long = book_room;
      words = λ b. tap_words book_room b.counted;
      back = λ w. with_counted (taps_at (number w Taps) (w Counted));
      rule = λ w. zero_from (number w Taps) (w Counted);
    }
piece_of Prompts =
    record {
      long = prompt_words;
      words = λ b. standing_words b.prompts;
      back = λ w. with_prompts (standings_at (w Prompts));
      rule = λ w. true;
    }

-- the pieces as they stand, one after the other
abbrev pub order : List Name
order = Screen ∷ Screens ∷ Logged ∷ Taps ∷ Table ∷ Value ∷ Log ∷ Counted ∷ Prompts ∷ []

-- how long a piece is, where it begins, and how long all are together
unfoldable pub size : Name → ℕ
unfolding most log_room book_room prompt_count
size n = (piece_of n).long

abbrev pub sizes : List ℕ
sizes = map size order

abbrev pub rank_of : ℕ → List Name → ℕ
rank_of k [] = 0
rank_of k (n ∷ ns) = cond (eqb k (tag n)) 0 (suc (rank_of k ns))

abbrev pub rank : Name → ℕ
rank n = rank_of (tag n) order

unfoldable pub from : Name → ℕ
unfolding size
from n = sum_of (take (rank n) sizes)

unfoldable pub book_long : ℕ
unfolding size
book_long = sum_of sizes

-- a piece of the words, and the number that is one
abbrev pub piece : Name → List ℕ → List ℕ
piece n ws = mid (from n) (size n) ws

abbrev pub number_in : Name → List ℕ → ℕ
number_in n ws = get_or (piece n ws) 0 0

-- pieces laid out one after the other
abbrev pub lay : Words → List ℕ
lay w = flat (map w order)

-- the words of a book
abbrev pub words_at : Book → Words
words_at b n = (piece_of n).words b

unfoldable pub words_of : Book → List ℕ
words_of b = lay (words_at b)

-- the book that the words hold
abbrev pub fill : List Name → Words → Book
fill [] w = no_book
fill (n ∷ ns) w = (piece_of n).back w (fill ns w)

unfoldable pub book_of : List ℕ → Book
book_of ws = fill order (λ n. piece n ws)

-- the one length, and what each piece keeps: numbers within their places, unused places zero
abbrev pub shape_rules : List ℕ → List Bool
shape_rules ws = eqb (length ws) book_long ∷ map (λ n. (piece_of n).rule (λ m. piece m ws)) order

unfoldable pub in_shape : List ℕ → Bool
in_shape ws = all (shape_rules ws)

-- a lent slice is sound: it has the shape, and the book that it holds is sound
unfoldable pub lawful : List ℕ → Bool
lawful ws = in_shape ws && sound (book_of ws)
