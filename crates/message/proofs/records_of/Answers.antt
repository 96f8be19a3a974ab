-- `message::records_of` meets its contract. Assumes nothing.
use Prim.Native.Nat.{ℕ, ◌+◌, ◌*◌, ◌≤◌}
use native.Mathlib.Omega.{arith}
use mathlib.Core.Path.{◌≡◌, refl, sym, ap, ap₂, ◌∙◌}
use lib.Dec.{T}
use lib.ListN.{length}
use mathlib.Core.List.{List}
use Rattle.stamp.specs.declared.Parts.{Parts}
use Rattle.lists.specs.Part.{mid}
use Rattle.wire.specs.Kinds.{head_kind, head_long, record_long}
use Rattle.std.specs.Prelude.{Ok}
use Rattle.wire.specs.Says as said
use Rattle.wire.specs.Head.{count_in}
use Rattle.message.specs.Message.{parts_of, record_parts, well_formed, read_gossip}
use Rattle.message.specs.Find.{place_for}
use Rattle.message.proofs.FindLaws.{end-part, none-refused, start-refused, place-next, found, none_found}
use Rattle.message.proofs.FindLaws.{start-some, start_none}
use Rattle.message.specs.Told.{gossip-told, gossip-unread, head-count, well-long}
use Rattle.message.proofs.records_of.Goals as goal

pub returns-in_default : goal.returns-in_default
unfolding mid head_kind
returns-in_default c =
    let s = c.args in
    let e = (gossip-unread s.msg.now _ c.in_default.ensures).0 in
    record {
      holds = end-part s.msg.now ∙ sym (none-refused s.origin s.msg.now e);
      block = refl;
      starts = rw (start-refused s.origin s.msg.now e) (omega arith);
    }

module _ (msg : List ℕ) {sender screens count : ℕ} {m : Parts}
    (read : Ok (said.Head sender screens count m) ≡ read_gossip msg)
  where
    -- a head is read: the message is well formed, and its count is the head's
    headed : T (well_formed msg) × (count_in msg ≡ count)
    headed =
        let told = gossip-told msg (said.Head sender screens count m) read in
        (told.0, head-count msg _ _ _ _ told.1)

    long : head_long + count * record_long ≤ length msg
    long = omega (arith, headed.1, well-long msg headed.0)

    -- the places of an origin's records and of those past them
    spots : (origin : ℕ) {o a e : ℕ} → o ≡ origin → a ≡ place_for o (parts_of count msg)
        → e ≡ place_for (o + 1) (parts_of count msg)
        → (a ≡ place_for origin (record_parts msg)) × (e ≡ place_for (origin + 1) (record_parts msg))
    spots origin {o} same first second = (first ∙ at same, second ∙ at (ap (λ (k : ℕ). k + 1) same))
      where
        at : {k l : ℕ} → k ≡ l → place_for k (parts_of count msg) ≡ place_for l (record_parts msg)
        at q = ap₂ (λ (i n : ℕ). place_for i (parts_of n msg)) q (sym headed.1)

pub place-a-requires : goal.place-a-requires
place-a-requires c = long c.args.msg.now c.in-Ok.ensures

pub place-e-requires : goal.place-e-requires
place-e-requires c = long c.args.msg.now c.in-Ok.ensures

pub returns-then-a-e : goal.returns-then-a-e
unfolding mid
returns-then-a-e c =
    let msg = c.args.msg.now in
    let o = c.args.origin in
    let read = c.in-Ok.ensures in
    let p = spots msg read o c.from-o.ensures c.place-a.ensures.0 c.place-e.ensures.0 in
    let well = (headed msg read).0 in
    let e = sym p.0 ∙ c.if-a-e.true ∙ p.1 in
    record {
      holds = end-part msg ∙ sym (none_found msg well o e);
      block = refl;
      starts = rw (start_none msg well o e) (omega arith);
    }

pub slice_bounds-result-count-2 : goal.slice_bounds-result-count-2
slice_bounds-result-count-2 c =
    let msg = c.args.msg.now in
    let o = c.args.origin in
    let read = c.in-Ok.ensures in
    let p = spots msg read o c.from-o.ensures c.place-a.ensures.0 c.place-e.ensures.0 in
    omega (arith, p, place-next msg (headed msg read).0 o)

pub slice_bounds-result-start-2 : goal.slice_bounds-result-start-2
slice_bounds-result-start-2 c =
    let msg = c.args.msg.now in
    let o = c.args.origin in
    let read = c.in-Ok.ensures in
    let p = spots msg read o c.from-o.ensures c.place-a.ensures.0 c.place-e.ensures.0 in
    omega (arith, p, place-next msg (headed msg read).0 o)

pub returns : goal.returns
unfolding mid
returns c =
    let msg = c.args.msg.now in
    let o = c.args.origin in
    let read = c.in-Ok.ensures in
    let p = spots msg read o c.from-o.ensures c.place-a.ensures.0 c.place-e.ensures.0 in
    let well = (headed msg read).0 in
    let e = start-some msg well o (λ q. c.if-a-e.false (p.0 ∙ q ∙ sym p.1)) in
    record {
      holds = rw (p.0, p.1) (found msg well o);
      block = refl;
      starts = rw (e, ← p.0) (omega arith);
    }
