-- `gossip_step::merge_at` meets its contract. Assumes nothing.
use Prim.Native.Nat.{◌-◌}
use native.Mathlib.Omega.{arith}
use mathlib.Core.Path.{◌≡◌}
use lib.ListN.{length, take, drop}
use Rattle.lists.specs.Part.{mid, patch, length-mid}
use Rattle.gossip_step.proofs.merge_at.Goals as goal

pub merge_new-requires : goal.merge_new-requires
unfolding mid
merge_new-requires c =
    let w = c.args in
    let k = c.requires.coming in
    let long : length (take (w.e - w.a) (drop w.a w.b.now))
    ≡ w.e - w.a = length-mid w.a (w.e - w.a) w.b.now (omega (arith, c.requires.a_le_e)) in
    record {
      head = k.head;
      msg_value = k.number;
      value = (k.new-number, omega (arith, long, c.requires.a_le_e));
      fresh = c.requires.fresh;
    }

pub returns : goal.returns
unfolding mid patch
returns c = rw c.merge_new.ensures
