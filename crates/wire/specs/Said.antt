-- What a message says: the number of its kind, and its values in order. Assumes nothing.
use Rattle.std.specs.Prelude.{ℕ, List, [], ◌∷◌, ◌++◌, Result, Ok, Err}
use Rattle.limits.specs.KindNumbers.{head_number, record_number, tap_number, question_number, taken_number}
use Rattle.limits.specs.KindNumbers.{already_number}
use Rattle.limits.specs.KindNumbers.{verdict_number, wait_number, refusal_number, gossip_taken_number, open_number}
use Rattle.limits.specs.KindNumbers.{send_number}
use Rattle.stamp.specs.Parts.{list_of}
use Rattle.tally.specs.Tap.{fields}
use Rattle.wire.specs.declared.Refusal.{Refusal}
use Rattle.wire.specs.Says.{Said}
use Rattle.wire.specs.Says as said

-- the kind's number, then the values of its fields
abbrev pub figures : Said → List ℕ
figures (said.Head sender screens count stamp) = head_number ∷ sender ∷ screens ∷ count ∷ list_of stamp
figures (said.Record origin number label tap) = record_number ∷ origin ∷ number ∷ list_of label ++ fields tap
figures (said.Tap tap label) = tap_number ∷ fields tap ++ list_of label
figures (said.Question prompt label) = question_number ∷ prompt ∷ list_of label
figures (said.Taken stamp) = taken_number ∷ list_of stamp
figures (said.Already stamp) = already_number ∷ list_of stamp
figures (said.Verdict verdict showing accepts declines value) =
    verdict_number ∷ verdict ∷ showing ∷ accepts ∷ declines ∷ list_of value
figures (said.Wait bits) = wait_number ∷ bits ∷ []
figures (said.Refusal number) = refusal_number ∷ number ∷ []
figures (said.GossipTaken new applied) = gossip_taken_number ∷ new ∷ applied ∷ []
figures (said.Open screen screens) = open_number ∷ screen ∷ screens ∷ []
figures said.Send = send_number ∷ []

-- the figures of what was read; none where the bytes are refused
abbrev pub read_figures : Result Said Refusal → List ℕ
read_figures (Ok v) = figures v
read_figures (Err r) = []
