-- `wire::put_line` meets its contract. Assumes nothing.
use mathlib.Core.Path.{◌≡◌, sym, subst, ◌∙◌}
use mathlib.Core.Bool.{true}
use native.Mathlib.Omega.{arith}
use borrow.Author.Tests.{not-true, not-false, lt-ltb, le-ltb}
use lib.Dec.{T}
use Rattle.numbers.specs.Fields.{fields_fit}
use Rattle.wire.specs.Write.{put_line}
use Rattle.wire.proofs.Returns.{fit_length, meets}
use Rattle.std.specs.Prelude.{Ok, Err}
use Rattle.wire.specs.declared.Refusal.TheVariants.{Bad, Short}
use Rattle.wire.proofs.put_line.Goals as goal

pub returns-then-not-fields_fit : goal.returns-then-not-fields_fit
unfolding put_line
returns-then-not-fields_fit c = let s = c.args in
    meets (Err Bad) s.out.now (rw (sym c.fields_fit.ensures ∙ not-true _ c.if-not-fields_fit.true-raw))

pub returns-then-out-long : goal.returns-then-out-long
unfolding put_line
returns-then-out-long c =
    let fitted : (let s = c.args in
    fields_fit s.ws.now s.line.now ≡ true) =
    sym c.fields_fit.ensures ∙ not-false _ c.if-not-fields_fit.false-raw in
    meets (Err Short) c.args.out.now (rw (fitted, c.requires, lt-ltb _ _ c.if-out-long.true))

pub put_fields-requires : goal.put_fields-requires
put_fields-requires c =
    let fitted : (let s = c.args in
    fields_fit s.ws.now s.line.now ≡ true) =
    sym c.fields_fit.ensures ∙ not-false _ c.if-not-fields_fit.false-raw in
    record {
      v_len = fit_length c.args.ws.now c.args.line.now (subst T (sym (fitted)) tt);
      ws_in_bounds = omega arith;
    }

pub returns : goal.returns
unfolding put_line
returns c =
    let fitted : (let s = c.args in
    fields_fit s.ws.now s.line.now ≡ true) =
    sym c.fields_fit.ensures ∙ not-false _ c.if-not-fields_fit.false-raw in
    meets (Ok c.args.long) c.put_fields.new.out
    (rw (
      fitted,
      c.requires,
      le-ltb _ _ c.if-out-long.false,
      c.put_fields.ensures,
    ))
