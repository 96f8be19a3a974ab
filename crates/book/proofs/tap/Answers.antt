-- `book::tap` meets its contract: a stop is the answer, and with none the tap is taken. Assumes nothing.
use mathlib.Core.Path.{subst}
use Rattle.promise.specs.KeepsLaws.{tap-stopped}
use Rattle.tap_step.specs.Stop.{TapStop}
use Rattle.book.specs.Heard.{owes_stop, tap_may, tap-owes}
use Rattle.book.specs.Stop.{TapStopOn}
use Rattle.book.proofs.tap.Goals as goal

pub take_tap-requires : goal.take_tap-requires
take_tap-requires c =
    let s = c.args in
    let all = tap_may s.b.now s.msg.now _
    (subst (λ (x : TapStop). TapStopOn s.b.now s.msg.now x) c.in-Ok.is
    c.tap_stop.ensures) in
    record { sound = all.0; unstopped = all.1 }

pub returns-in-Err : goal.returns-in-Err
returns-in-Err c =
    let s = c.args in
    let stop = subst (λ (x : TapStop). TapStopOn s.b.now s.msg.now x) c.in-Err.is
    c.tap_stop.ensures in
    owes_stop _ _ s.b.now (tap-stopped s.b.now s.msg.now _ stop)

pub returns-in-Ok : goal.returns-in-Ok
returns-in-Ok c =
    let s = c.args in
    let stop = subst (λ (x : TapStop). TapStopOn s.b.now s.msg.now x) c.in-Ok.is
    c.tap_stop.ensures in
    tap-owes s.b.now s.msg.now _ stop _ _ c.take_tap.ensures
