-- `send_step::put_records` meets its contract. Assumes nothing.
use Prim.Native.Nat.{ℕ, ◌+◌, ◌-◌, ◌<◌}
use native.Mathlib.Omega.{arith}
use mathlib.Core.Path.{◌≡◌, sym, ap₂, ◌∙◌}
use mathlib.Core.List.{List, []}
use lib.ListN.{length, get_or}
use Rattle.lists.specs.Part.{patch}
use Rattle.wire.specs.Kinds.{record_long}
use Rattle.lent.specs.Words.{book_of}
use Rattle.send_step.specs.Parts.{start_at}
use Rattle.send_step.proofs.Turn.{held_record, row-writable, row-bytes, sent-next, sent-last}
use Rattle.send_step.proofs.put_records.Goals as goal

pub put_row-requires-clause-t : goal.put_row-requires-clause-t
put_row-requires-clause-t c =
    let rows = c.log_rows-row-items in
    let i = c.loop-i.i in
    row-writable c.args.b.now c.requires.t c.args.m c.requires.m_value i (omega (arith, rows.ensures.1))
    (get_or rows.result.now i []) (held_record rows.result.now _ i rows.ensures.0) _ c.screens_of-screens.ensures.0

pub loop-i-preserved : goal.loop-i-preserved
unfolding patch
loop-i-preserved c =
    let ws = c.args.b.now in
    let rows = c.log_rows-row-items in
    let i = c.loop-i.i in
    let lt : i < length (book_of ws).log = omega (arith, rows.ensures.1) in
    let bytes = row-bytes ws c.requires.t c.args.m c.requires.m_value i lt (get_or rows.result.now i [])
    (held_record rows.result.now _ i rows.ensures.0) _ c.screens_of-screens.ensures.0 in
    let long : start_at i + record_long - start_at i ≡ record_long = omega arith in
    c.loop-i.invariant
    ∙ sent-next ws c.requires.t i c.loop-i.out _ lt (omega (arith, c.requires.b_in_bounds))
    (ap₂ (λ (j : ℕ) (ys : List ℕ). patch (start_at i) j c.loop-i.out ys) long (c.put_row.ensures ∙ bytes))

pub returns : goal.returns
returns c =
    let all : c.loop-i.i ≡ length (book_of c.args.b.now).log = omega (arith, c.log_rows-row-items.ensures.1) in
    sym (c.loop-i.invariant
    ∙ sent-last c.args.b.now c.requires.t c.loop-i.i c.loop-i.out (omega (arith, all)) (omega (arith, all)))
