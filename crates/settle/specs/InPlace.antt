-- Laws: the books between a sound one and the same put in order, when a step writes its rows, then its new records,
-- then settles. Assumes nothing.
use Rattle.std.specs.Prelude.{◌≤◌, ◌≡◌, List, [], length, get_or}
use Rattle.std.proofs.Common.{arith, ap}
use Rattle.lists.specs.TestLaws.{◌∈◌}
use Rattle.limits.specs.Limits.{book_room}
use Rattle.stamp.specs.Stamp.{Stamp, part}
use Rattle.tally.specs.Standing.{count_all}
use Rattle.ledger.specs.Log.{gathered}
use Rattle.ledger.proofs.LogLaws.{put-log, same_place}
use Rattle.ledger.specs.Record.{Record}
use Rattle.log_edit.specs.Merge.{Fresh}
use Rattle.meaning.specs.Book.{Book, known, ready, row}
use Rattle.meaning.specs.BookLaws.{Sound, counted-few, counts_small}
use Rattle.meaning.proofs.SettleLaws.{gathered-obeys, counted-after, settle-sound}
use Rattle.meaning.proofs.SettleLaws as meaning
use Rattle.meaning.specs.Step.{settle, now_ready, now_applied, taps_of}
use Rattle.lent.specs.SoundWords.{whole_each, sound-shape}
use Rattle.lent.specs.With.{with_table, with_log}
use Rattle.lent.specs.Shape.{Shape, table_fits, log-fits}
use Rattle.settle.specs.Ready.{Appliable}

module _ (b : Book) (rows : List Stamp) (new : List Record) (s : Sound b) (y : meaning.Ready b rows new) where
  -- new records are at no place of the log: they are not known, and its records are
  pub new-fresh : Fresh new b.log
  new-fresh = record { order = y.order; sorted = s.log-order; apart = λ x r m n e. old x r m n (same_place x r e) }
    where
      old : (x r : Record) → x ∈ new → r ∈ b.log → (x.origin ≡ r.origin) × (x.number ≡ r.number) → ⊥
      old x r m n e = omega (arith, y.above x m, s.log-known r n, e.1, ap (λ k. part (known b) k) e.0)

  pub rows-shape : Shape (with_table rows b)
  unfolding settle
  rows-shape =
      let z = sound-shape (settle b rows new) (settle-sound b rows new s y) in
      table_fits b (sound-shape b s) rows z.rows_long z.rows-wide

  pub log-shape : Shape (with_log (gathered new b.log) (with_table rows b))
  log-shape =
      log-fits (with_table rows b) rows-shape (gathered new b.log)
      (omega (arith, (put-log new b.log).long, y.space))
      (whole_each b.screens (gathered new b.log) (gathered-obeys b rows new s y))

  -- what is counted in the end is no more than the book may know
  counted-room : length (count_all (taps_of (now_applied b (get_or rows b.me []) new)) b.counted) ≤ book_room
  counted-room =
      let few = counted-few (settle b rows new) (settle-sound b rows new s y) in
      omega (arith, ap length (counted-after b rows new s y), few)

  pub in-place-ready :
      Appliable (ready b) (ready (with_log (gathered new b.log) (with_table rows b)))
      (with_log (gathered new b.log) (with_table rows b))
  unfolding ready known row now_ready now_applied
  in-place-ready =
      record {
        shape = log-shape;
        order = s.counted-order;
        few = counts_small b s;
        obey = gathered-obeys b rows new s y;
        room = counted-room;
      }
