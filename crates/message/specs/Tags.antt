-- A reader's answer that has another's tag is not this one. Assumes nothing.
use Rattle.std.specs.Prelude.{ℕ, ◌≢◌, not, List, T, eqb, Result, Ok, Err}
use Rattle.std.proofs.Common.{ap, subst}
use mir.Val.{has_key}
use types.Run.{OneOf, miss}
use Rattle.lists.specs.Tests.{numbers, keep}
use Rattle.wire.specs.Says.{Said}
use Rattle.wire.specs.Says as said
use Rattle.wire.specs.declared.Refusal.{Refusal}

-- how many cases a reader's answer has: one for each kind, and last that the bytes are refused
abbrev said_cases : ℕ
said_cases = 13

-- what is said by its place in the order of the kinds
abbrev case_of : Said → ℕ
case_of (said.Head sender screens count stamp) = 0
case_of (said.Record origin number label tap) = 1
case_of (said.Tap tap label) = 2
case_of (said.Question prompt label) = 3
case_of (said.Taken stamp) = 4
case_of (said.Already stamp) = 5
case_of (said.Verdict verdict showing accepts declines value) = 6
case_of (said.Wait bits) = 7
case_of (said.Refusal number) = 8
case_of (said.GossipTaken new applied) = 9
case_of (said.Open screen screens) = 10
case_of said.Send = 11

abbrev tag_in : Result Said Refusal → ℕ
tag_in (Ok v) = case_of v
tag_in (Err r) = 12

-- the tags of all answers but one
abbrev others_than : ℕ → List ℕ
others_than n = keep (λ k. not (eqb k n)) (numbers 0 said_cases)

pub not-this : (v w : Result Said Refusal) → OneOf (others_than (tag_in w)) (tag_in v)
    → T (not (has_key (others_than (tag_in w)) (tag_in w)))
    → v ≢ w
not-this v w h t q = miss (others_than (tag_in w)) (tag_in w) t
    (subst (OneOf (others_than (tag_in w))) (ap (λ (x : Result Said Refusal). tag_in x) q) h)
