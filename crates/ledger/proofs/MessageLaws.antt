-- Laws of messages: the field rules as facts, by name. Assumes nothing.
use Rattle.std.specs.Prelude.{ℕ, Bool, T, length}
use Rattle.std.proofs.Common.{leb→le}
use Rattle.lists.specs.TestLaws.{every-at, given}
use Rattle.limits.specs.Limits.{log_room}
use Rattle.stamp.specs.Laws.{fits}
use Rattle.ledger.specs.Message.{Message, message_rules, message_fits}
use Rattle.ledger.specs.Record.{is_known, record_fits}
use Rattle.ledger.proofs.RecordLaws.{known_le}
use Rattle.ledger.specs.Readable.{Readable}

pub readable : (body_fits : ℕ → Bool) (m : Message) → T (message_fits body_fits m) → Readable body_fits m
unfolding message_fits
readable body_fits m t =
    given (message_rules body_fits m) t
    (λ range stamp-fits few order reached obey.
    record {
      range = range;
      stamp-fits = fits m.screens m.stamp stamp-fits;
      few = leb→le (length m.records) log_room few;
      order = order;
      reached = λ r n. known_le m.stamp r (every-at (is_known m.stamp) m.records reached n);
      obey = λ r n. every-at (record_fits body_fits m.screens) m.records obey n;
    })
