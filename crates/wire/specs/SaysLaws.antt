-- Laws: what a reader's answer says settles it, so a reader's promise allows one answer. Assumes nothing.
--     one-reader   two answers that say the same are one, where no two values say the same
--     one-head, one-record, one-tap, one-question, one-verdict, one-gossip_taken, one-open   of each struct
--     one-taken, one-already, one-wait, one-refusal, one-send   of a stamp, a number, nothing
use Rattle.std.specs.Prelude.{◌≡◌, refl, Result, Ok, Err, is_ok}
use Rattle.std.proofs.Common.{sym, ap, true≢false}
use Rattle.wire.specs.declared.Refusal as refused
use Rattle.wire.specs.Says.{Said, says, head_says, record_says, tap_says, question_says, verdict_says}
use Rattle.wire.specs.Says.{gossip_taken_says, open_says}
use Rattle.wire.specs.Says as said

-- no two values say the same
abbrev pub SaysOne : {A : Type 0} → (A → Said) → Type 0
SaysOne {A} f = (x y : A) → f x ≡ f y → x ≡ y

pub one-reader : {A : Type 0} (f : A → Said) → SaysOne f → (r r' : Result A refused.Refusal) → says f r ≡ says f r'
    → r ≡ r'
one-reader f one (Ok x) (Ok y) e = let same : f x ≡ f y = cc in ap Ok (one x y same)
one-reader f one (Ok x) (Err r) e = absurd (true≢false (ap is_ok e))
one-reader f one (Err r) (Ok y) e = absurd (true≢false (sym (ap is_ok e)))
one-reader f one (Err r) (Err r') e = let same : r ≡ r' = cc in ap Err same

pub one-head : SaysOne head_says
one-head x y e =
    let sender : x.sender ≡ y.sender = cc in
    let screens : x.screens ≡ y.screens = cc in
    let count : x.count ≡ y.count = cc in
    let stamp : x.stamp ≡ y.stamp = cc in
    λ k. record { sender = sender k; screens = screens k; count = count k; stamp = stamp k }

pub one-record : SaysOne record_says
one-record x y e =
    let origin : x.origin ≡ y.origin = cc in
    let number : x.number ≡ y.number = cc in
    let label : x.label ≡ y.label = cc in
    let tap : x.tap ≡ y.tap = cc in
    λ k. record { origin = origin k; number = number k; label = label k; tap = tap k }

pub one-tap : SaysOne tap_says
one-tap x y e =
    let tap : x.tap ≡ y.tap = cc in
    let label : x.label ≡ y.label = cc in
    λ k. record { tap = tap k; label = label k }

pub one-question : SaysOne question_says
one-question x y e =
    let prompt : x.prompt ≡ y.prompt = cc in
    let label : x.label ≡ y.label = cc in
    λ k. record { prompt = prompt k; label = label k }

pub one-verdict : SaysOne verdict_says
one-verdict x y e =
    let verdict : x.verdict ≡ y.verdict = cc in
    let showing : x.showing ≡ y.showing = cc in
    let accepts : x.accepts ≡ y.accepts = cc in
    let declines : x.declines ≡ y.declines = cc in
    let value : x.value ≡ y.value = cc in
    λ k. record {
      verdict = verdict k;
      showing = showing k;
      accepts = accepts k;
      declines = declines k;
      value = value k;
    }

pub one-gossip_taken : SaysOne gossip_taken_says
one-gossip_taken x y e =
    let new : x.new ≡ y.new = cc in
    let applied : x.applied ≡ y.applied = cc in
    λ k. record { new = new k; applied = applied k }

pub one-open : SaysOne open_says
one-open x y e =
    let screen : x.screen ≡ y.screen = cc in
    let screens : x.screens ≡ y.screens = cc in
    λ k. record { screen = screen k; screens = screens k }

pub one-taken : SaysOne said.Taken
one-taken x y e = cc

pub one-already : SaysOne said.Already
one-already x y e = cc

pub one-wait : SaysOne said.Wait
one-wait x y e = cc

pub one-refusal : SaysOne said.Refusal
one-refusal x y e = cc

pub one-send : SaysOne {A = Unit {0}} (λ _. said.Send)
one-send x y e = refl
