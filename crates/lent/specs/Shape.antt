-- What a book needs for its words to hold it, and that it keeps it where one of its parts is changed for one that fits.
-- Assumes nothing.
use Rattle.std.specs.Prelude.{◌≤◌, ◌≡◌, List, T, length}
use Rattle.lists.specs.RowLaws.{Wide}
use Rattle.lists.specs.Tests.{every}
use Rattle.limits.specs.Limits.{parts, prompt_count, most, log_room, book_room}
use Rattle.stamp.specs.Stamp.{Stamp}
use Rattle.tally.specs.declared.Standing.{Standing}
use Rattle.tally.specs.declared.Tap.{Tap}
use Rattle.ledger.specs.Record.{Record}
use Rattle.book_log.specs.RegionLaws.{whole_label}
use Rattle.taps.specs.RegionLaws.{AllFit}
use Rattle.meaning.specs.Book.{Book}
use Rattle.lent.specs.With.{with_table, with_value, with_log, with_counted, with_prompts}

pub record Shape (b : Book) : Type 0 where
  pub rows_long : length b.table ≡ b.screens
  pub screens-few : b.screens ≤ most
  pub rows-wide : Wide parts b.table
  pub value-long : length b.value ≡ parts
  pub log-few : length b.log ≤ log_room
  pub log-whole : T (every whole_label b.log)
  pub counted-few : length b.counted ≤ book_room
  pub counted_fit : AllFit b.counted
  pub prompts-long : length b.prompts ≡ prompt_count

module _ (b : Book) (s : Shape b) where
  pub table_fits : (rows : List Stamp) → length rows ≡ b.screens → Wide parts rows → Shape (with_table rows b)
  table_fits rows e w =
      record {
        rows_long = e;
        screens-few = s.screens-few;
        rows-wide = w;
        value-long = s.value-long;
        log-few = s.log-few;
        log-whole = s.log-whole;
        counted-few = s.counted-few;
        counted_fit = s.counted_fit;
        prompts-long = s.prompts-long;
      }

  pub value-fits : (v : Stamp) → length v ≡ parts → Shape (with_value v b)
  value-fits v e =
      record {
        rows_long = s.rows_long;
        screens-few = s.screens-few;
        rows-wide = s.rows-wide;
        value-long = e;
        log-few = s.log-few;
        log-whole = s.log-whole;
        counted-few = s.counted-few;
        counted_fit = s.counted_fit;
        prompts-long = s.prompts-long;
      }

  pub log-fits : (rs : List Record) → length rs ≤ log_room → T (every whole_label rs) → Shape (with_log rs b)
  log-fits rs few whole =
      record {
        rows_long = s.rows_long;
        screens-few = s.screens-few;
        rows-wide = s.rows-wide;
        value-long = s.value-long;
        log-few = few;
        log-whole = whole;
        counted-few = s.counted-few;
        counted_fit = s.counted_fit;
        prompts-long = s.prompts-long;
      }

  pub counted-fits : (ts : List Tap) → length ts ≤ book_room → AllFit ts → Shape (with_counted ts b)
  counted-fits ts few fit =
      record {
        rows_long = s.rows_long;
        screens-few = s.screens-few;
        rows-wide = s.rows-wide;
        value-long = s.value-long;
        log-few = s.log-few;
        log-whole = s.log-whole;
        counted-few = few;
        counted_fit = fit;
        prompts-long = s.prompts-long;
      }

  pub prompts_fit : (ss : List Standing) → length ss ≡ prompt_count → Shape (with_prompts ss b)
  prompts_fit ss e =
      record {
        rows_long = s.rows_long;
        screens-few = s.screens-few;
        rows-wide = s.rows-wide;
        value-long = s.value-long;
        log-few = s.log-few;
        log-whole = s.log-whole;
        counted-few = s.counted-few;
        counted_fit = s.counted_fit;
        prompts-long = e;
      }
