-- A book with one of its parts changed; and the book of nothing, from which one is read piece by piece. Assumes
-- nothing.
use Rattle.std.specs.Prelude.{ℕ, List, []}
use Rattle.stamp.specs.Stamp.{Stamp}
use Rattle.tally.specs.declared.Standing.{Standing}
use Rattle.tally.specs.declared.Tap.{Tap}
use Rattle.ledger.specs.Record.{Record}
use Rattle.meaning.specs.Book.{Book}

abbrev pub no_book : Book
no_book = record { me = 0; screens = 0; table = []; value = []; log = []; counted = []; prompts = [] }

abbrev pub with_me : ℕ → Book → Book
with_me i b =
    record {
      me = i;
      screens = b.screens;
      table = b.table;
      value = b.value;
      log = b.log;
      counted = b.counted;
      prompts = b.prompts;
    }

abbrev pub with_screens : ℕ → Book → Book
with_screens n b =
    record {
      me = b.me;
      screens = n;
      table = b.table;
      value = b.value;
      log = b.log;
      counted = b.counted;
      prompts = b.prompts;
    }

abbrev pub with_table : List Stamp → Book → Book
with_table rows b =
    record {
      me = b.me;
      screens = b.screens;
      table = rows;
      value = b.value;
      log = b.log;
      counted = b.counted;
      prompts = b.prompts;
    }

abbrev pub with_value : Stamp → Book → Book
with_value s b =
    record {
      me = b.me;
      screens = b.screens;
      table = b.table;
      value = s;
      log = b.log;
      counted = b.counted;
      prompts = b.prompts;
    }

abbrev pub with_log : List Record → Book → Book
with_log rs b =
    record {
      me = b.me;
      screens = b.screens;
      table = b.table;
      value = b.value;
      log = rs;
      counted = b.counted;
      prompts = b.prompts;
    }

abbrev pub with_counted : List Tap → Book → Book
with_counted ts b =
    record {
      me = b.me;
      screens = b.screens;
      table = b.table;
      value = b.value;
      log = b.log;
      counted = ts;
      prompts = b.prompts;
    }

abbrev pub with_prompts : List Standing → Book → Book
with_prompts ss b =
    record {
      me = b.me;
      screens = b.screens;
      table = b.table;
      value = b.value;
      log = b.log;
      counted = b.counted;
      prompts = ss;
    }
