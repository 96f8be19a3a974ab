-- Laws: what a reply's first byte tells. Assumes nothing.
--     first_of                    it is the number of the reply's kind
--     first_no-head, first_head   it is never kind 1, which a gossip message's is
use Rattle.std.specs.Prelude.{ℕ, ◌≡◌, refl, false, eqb, get_or}
use Rattle.std.proofs.Common.{ap, ◌∙◌}
use Rattle.limits.specs.KindNumbers.{head_number}
use Rattle.numbers.specs.Number.{bytes_of}
use Rattle.wire.specs.Kinds.{taken_kind, already_kind, verdict_kind, wait_kind, refusal_kind, gossip_taken_kind}
use Rattle.wire.specs.Kinds.{head_kind}
use Rattle.wire.specs.Write.{written}
use Rattle.message.specs.Message as gossip
use Rattle.message.specs.Message.{head_of}
use Rattle.ledger.specs.Message.{Message}
use Rattle.meaning.specs.Reply.{Reply, taken, already, verdict, wait, refusal, gossiped, figures, is_of}
use Rattle.answer.specs.Speech.{bytes_for}

first_kind : (r : Reply) → get_or (bytes_for r) 0 0 ≡ get_or (figures r) 0 0
unfolding bytes_for written bytes_of taken_kind already_kind verdict_kind wait_kind refusal_kind gossip_taken_kind
first_kind (taken s) = refl
first_kind (already s) = refl
first_kind (verdict v h a d s) = refl
first_kind (wait bits) = refl
first_kind (refusal k) = refl
first_kind (gossiped new applied) = refl

pub first_of : (number : ℕ) (r : Reply) → eqb (get_or (bytes_for r) 0 0) number ≡ is_of number r
first_of number r = ap (λ (k : ℕ). eqb k number) (first_kind r)

pub first_no-head : (r : Reply) → eqb (get_or (bytes_for r) 0 0) head_number ≡ false
first_no-head r = first_of head_number r ∙ no-head r
  where
    no-head : (r : Reply) → is_of head_number r ≡ false
    no-head (taken s) = refl
    no-head (already s) = refl
    no-head (verdict v h a d s) = refl
    no-head (wait bits) = refl
    no-head (refusal k) = refl
    no-head (gossiped new applied) = refl

pub first_head : (m : Message) → get_or (gossip.message_bytes m) 0 0 ≡ head_number
unfolding gossip.message_bytes written bytes_of head_kind head_of
first_head m = refl
