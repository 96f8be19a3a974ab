-- `answer::answer_tap` meets its contract: what stops the tap is said; with nothing, Taken needs its room first.
-- Assumes nothing.
use mathlib.Core.Path.{refl, subst}
use native.Mathlib.Omega.{arith}
use Rattle.promise.specs.KeepsLaws.{tap-stopped}
use Rattle.promise.specs.Lent.{Promise, tap_on}
use Rattle.std.specs.Prelude.{Ok}
use Rattle.tap_step.specs.Stop.{TapStop}
use Rattle.book.specs.Heard.{owes_stop, tap_may, tap-owes}
use Rattle.book.specs.Stop.{TapStopOn}
use Rattle.answer.specs.SpeechLaws.{tap-says}
use Rattle.answer.specs.Answer.{done_by}
use Rattle.answer.specs.AnswerLaws.{short}
use Rattle.answer.proofs.Owes.{answer-says, owes-kept, owes-room, tap-room}
use Rattle.answer.proofs.answer_tap.Goals as goal

pub put-requires : goal.put-requires
put-requires c =
    let stopped : (let s = c.args in
    Promise (tap_on s.b.now s.msg.now) c.in-Err.reply s.b.now) =
    let s = c.args in
    let stop = subst (λ (x : TapStop). TapStopOn s.b.now s.msg.now x) c.in-Err.is c.tap_stop.ensures
    in
    owes_stop _ _ s.b.now (tap-stopped s.b.now s.msg.now _ stop) in
    let s = c.args in
    answer-says (tap_on s.b.now s.msg.now) _ _ (stopped) (tap-says s.b.now s.msg.now)

pub returns-then-out-lt-TAP_ROOM : goal.returns-then-out-lt-TAP_ROOM
returns-then-out-lt-TAP_ROOM c =
    let clear : (let s = c.args in
    TapStopOn s.b.now s.msg.now (Ok c.in-Ok.asked)) =
    let s = c.args in
    subst (λ (x : TapStop). TapStopOn s.b.now s.msg.now x) c.in-Ok.is c.tap_stop.ensures in
    let s = c.args in
    short (done_by (tap_on s.b.now s.msg.now)) s.b.now s.out.now
    (omega (arith, c.if-out-lt-TAP_ROOM.true, tap-room s.b.now s.msg.now (clear).0))

pub take_tap-requires : goal.take_tap-requires
take_tap-requires c =
    let clear : (let s = c.args in
    TapStopOn s.b.now s.msg.now (Ok c.in-Ok.asked)) =
    let s = c.args in
    subst (λ (x : TapStop). TapStopOn s.b.now s.msg.now x) c.in-Ok.is c.tap_stop.ensures in
    let s = c.args in
    let all = tap_may s.b.now s.msg.now _ (clear) in
    record { sound = all.0; unstopped = all.1 }

pub put-requires-in-Ok : goal.put-requires-in-Ok
put-requires-in-Ok c =
    let clear : (let s = c.args in
    TapStopOn s.b.now s.msg.now (Ok c.in-Ok.asked)) =
    let s = c.args in
    subst (λ (x : TapStop). TapStopOn s.b.now s.msg.now x) c.in-Ok.is c.tap_stop.ensures in
    let taken : (let s = c.args in
    Promise (tap_on s.b.now s.msg.now) c.take_tap.result c.take_tap.new.b) =
    let s = c.args in
    tap-owes s.b.now s.msg.now _ (clear) _ _ c.take_tap.ensures in
    let s = c.args in
    answer-says (tap_on s.b.now s.msg.now) _ _ (taken) (tap-says s.b.now s.msg.now)

pub returns-in-Err : goal.returns-in-Err
returns-in-Err c =
    let stopped : (let s = c.args in
    Promise (tap_on s.b.now s.msg.now) c.in-Err.reply s.b.now) =
    let s = c.args in
    let stop = subst (λ (x : TapStop). TapStopOn s.b.now s.msg.now x) c.in-Err.is c.tap_stop.ensures
    in
    owes_stop _ _ s.b.now (tap-stopped s.b.now s.msg.now _ stop) in
    let s = c.args in
    owes-kept (tap_on s.b.now s.msg.now) s.b.now s.out.now s.b.now _ (stopped) _ _
    c.put.ensures.value c.put.ensures.out_after refl

pub returns-else-out-lt-TAP_ROOM : goal.returns-else-out-lt-TAP_ROOM
returns-else-out-lt-TAP_ROOM c =
    let clear : (let s = c.args in
    TapStopOn s.b.now s.msg.now (Ok c.in-Ok.asked)) =
    let s = c.args in
    subst (λ (x : TapStop). TapStopOn s.b.now s.msg.now x) c.in-Ok.is c.tap_stop.ensures in
    let taken : (let s = c.args in
    Promise (tap_on s.b.now s.msg.now) c.take_tap.result c.take_tap.new.b) =
    let s = c.args in
    tap-owes s.b.now s.msg.now _ (clear) _ _ c.take_tap.ensures in
    let s = c.args in
    owes-room (tap_on s.b.now s.msg.now) s.b.now s.out.now _ _ (taken) _ _ c.put-in-Ok.ensures.value
    c.put-in-Ok.ensures.out_after
    (omega (arith, c.if-out-lt-TAP_ROOM.false, tap-room s.b.now s.msg.now (clear).0))
