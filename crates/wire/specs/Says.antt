-- What a message says, in the order of the kinds; and what each reader's answer says. Assumes nothing.
use Rattle.std.specs.Prelude.{ℕ, Result, Ok, Err}
use Rattle.stamp.specs.declared.Parts.{Parts}
use Rattle.tally.specs.declared.Tap as tally
use Rattle.wire.specs.declared.GossipTaken as answer
use Rattle.wire.specs.declared.Head as gossip
use Rattle.wire.specs.declared.Open as opening
use Rattle.wire.specs.declared.Question as asking
use Rattle.wire.specs.declared.Record as logged
use Rattle.wire.specs.declared.Refusal as refused
use Rattle.wire.specs.declared.TapRequest as tapping
use Rattle.wire.specs.declared.Verdict as judged

pub data Said : Type 0 where
  Head : ℕ → ℕ → ℕ → Parts → Said
  Record : ℕ → ℕ → Parts → tally.Tap → Said
  Tap : tally.Tap → Parts → Said
  Question : ℕ → Parts → Said
  Taken : Parts → Said
  Already : Parts → Said
  Verdict : ℕ → ℕ → ℕ → ℕ → Parts → Said
  Wait : ℕ → Said
  Refusal : ℕ → Said
  GossipTaken : ℕ → ℕ → Said
  Open : ℕ → ℕ → Said
  Send : Said

-- what a reader's answer says, by what its values say
abbrev pub says : {A : Type 0} → (A → Said) → Result A refused.Refusal → Result Said refused.Refusal
says f (Ok v) = Ok (f v)
says f (Err r) = Err r

abbrev pub head_says : gossip.Head → Said
head_says h = Head h.sender h.screens h.count h.stamp

abbrev pub record_says : logged.Record → Said
record_says r = Record r.origin r.number r.label r.tap

abbrev pub tap_says : tapping.TapRequest → Said
tap_says t = Tap t.tap t.label

abbrev pub question_says : asking.Question → Said
question_says q = Question q.prompt q.label

abbrev pub verdict_says : judged.Verdict → Said
verdict_says v = Verdict v.verdict v.showing v.accepts v.declines v.value

abbrev pub gossip_taken_says : answer.GossipTaken → Said
gossip_taken_says g = GossipTaken g.new g.applied

abbrev pub open_says : opening.Open → Said
open_says o = Open o.screen o.screens
