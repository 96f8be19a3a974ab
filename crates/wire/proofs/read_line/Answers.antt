-- `wire::read_line` meets its contract. Assumes nothing.
use mathlib.Core.Path.{◌≡◌}
use mathlib.Core.Bool.{true}
use native.Mathlib.Omega.{arith}
use Prim.Native.Nat.{ℕ, ◌-◌}
use Rattle.std.proofs.lemmas.List.{length-replicate}
use Rattle.stamp.specs.Stamp.{total}
use Rattle.wire.specs.Kinds.{shaped}
use Rattle.wire.specs.Read.{line_as}
use Rattle.wire.proofs.Returns.{failed, passed, shaped-long}
use Rattle.wire.proofs.read_line.Goals as goal

pub returns-then-not-is_kind : goal.returns-then-not-is_kind
unfolding line_as
returns-then-not-is_kind g c = rw (failed c.is_kind.ensures c.if-not-is_kind.true-raw)

pub read_fields-requires : goal.read_fields-requires
read_fields-requires g c =
    let s = c.args in
    let shape : shaped s.kind s.msg.now ≡ true = passed c.is_kind.ensures c.if-not-is_kind.false-raw in
    let long = shaped-long s.kind (total s.ws.now - 1) s.msg.now c.requires.long shape in
    record {
      v_len = omega (arith, length-replicate {A = ℕ} g.row.N 0, c.told-ws);
      ws_in_bounds = omega (arith, long, c.requires.some);
      t = c.requires.narrow;
    }

pub returns : goal.returns
unfolding line_as
returns g c = rw (passed c.is_kind.ensures c.if-not-is_kind.false-raw, c.read_fields.ensures)
