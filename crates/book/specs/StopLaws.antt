-- Laws: two stops that both meet what a tap's, or a gossip's, promises are equal. Assumes nothing.
use Rattle.std.specs.Prelude.{ℕ, ◌≡◌, refl, List, [], Ok, Err}
use Rattle.std.proofs.Common.{sym, ap, ◌∙◌}
use Rattle.std.proofs.Math.Option.{some-injective, some-ne-none}
use Rattle.stamp.specs.Parts.{parts_at, list_of}
use Rattle.stamp.specs.PartsLaws.{parts_list}
use Rattle.stamp.specs.declared.Parts.{Parts}
use Rattle.meaning.specs.Reply.{Reply}
use Rattle.promise.specs.LentLaws.{one-outcome}
use Rattle.promise.specs.Spoken.{spoken}
use Rattle.promise.specs.declared.Reply as answer
use Rattle.tap_step.specs.Stop.{TapStop}
use Rattle.gossip_step.specs.Heard.{Hears}
use Rattle.gossip_step.specs.Stop.{GossipStop}
use Rattle.gossip_step.specs.declared.Incoming.{Incoming}
use Rattle.book.specs.Stop.{TapStopOn, GossipStopOn}

-- a reply is settled by what it says
same-reply : (r r' : answer.Reply) → ◌≡◌ {A = Reply} (spoken r) (spoken r') → r ≡ r'
same-reply r r' e =
    (one-outcome (record { reply = spoken r; words = [] }) r r' [] [] (record { answers = refl; leaves = refl })
    (record { answers = sym e; leaves = refl })).0

-- a stamp by its parts
same_parts : (s s' : Parts) → list_of s ≡ list_of s' → s ≡ s'
same_parts s s' e = sym (parts_list s) ∙ ap (parts_at 0) e ∙ parts_list s'

pub one-tap_stop : (ws bytes : List ℕ) (r r' : TapStop) → TapStopOn ws bytes r → TapStopOn ws bytes r' → r ≡ r'
one-tap_stop ws bytes (Err x) (Err y) p q =
    ap Err (same-reply x y (some-injective (spoken x) (spoken y) (sym p ∙ q)))
one-tap_stop ws bytes (Err x) (Ok t) p q = absurd (some-ne-none (spoken x) (sym p ∙ q.0))
one-tap_stop ws bytes (Ok t) (Err y) p q = absurd (some-ne-none (spoken y) (sym q ∙ p.0))
one-tap_stop ws bytes (Ok t) (Ok u) p q =
    let tap : t.tap ≡ u.tap = p.1 ∙ sym q.1 in
    let label : t.label ≡ u.label = p.2 ∙ sym q.2 in
    λ k. Ok (record { tap = tap k; label = label k })

-- a head is settled by the bytes
module _ (bytes : List ℕ) (a b : Incoming) (h : Hears bytes a.head) (h' : Hears bytes b.head) where
  same-clear : a.new ≡ b.new → a ≡ b
  same-clear e =
      let sender : a.head.sender ≡ b.head.sender = sym h.from ∙ h'.from in
      let screens : a.head.screens ≡ b.head.screens = sym h.head.screens ∙ h'.head.screens in
      let count : a.head.count ≡ b.head.count = sym h.number ∙ h'.number in
      let stamp : a.head.stamp ≡ b.head.stamp =
      same_parts a.head.stamp b.head.stamp (sym h.head.stamp ∙ h'.head.stamp) in
      λ k. record {
        head = record { sender = sender k; screens = screens k; count = count k; stamp = stamp k };
        new = e k;
      }

pub one-gossip_stop : (ws bytes : List ℕ) (r r' : GossipStop) → GossipStopOn ws bytes r → GossipStopOn ws bytes r'
    → r ≡ r'
one-gossip_stop ws bytes (Err x) (Err y) p q =
    ap Err (same-reply x y (some-injective (spoken x) (spoken y) (sym p ∙ q)))
one-gossip_stop ws bytes (Err x) (Ok i) p q = absurd (some-ne-none (spoken x) (sym p ∙ q.0))
one-gossip_stop ws bytes (Ok i) (Err y) p q = absurd (some-ne-none (spoken y) (sym q ∙ p.0))
one-gossip_stop ws bytes (Ok i) (Ok j) p q = ap Ok (same-clear bytes i j p.1 q.1 (p.2 ∙ sym q.2))
