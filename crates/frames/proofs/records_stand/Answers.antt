-- `frames::records_stand` meets its contract. Assumes nothing.
use Rattle.std.proofs.Common.{rules, refl, arith, ◌∙◌, sym}
use Rattle.std.proofs.lemmas.Iterator.{YieldsList-from_range}
use Rattle.std.proofs.lemmas.Iterator.Search.{all_from_yields_List}
use Rattle.frames.specs.Next.{record_stands}
use Rattle.frames.proofs.Lines.{below_range}
use Rattle.frames.proofs.records_stand.Goals as goal

pub returns : goal.returns
returns c =
    let s = c.args in
    all_from_yields_List (record_stands s.read.now) c.all.new.self _ _ c.all.ensures.ran
    (YieldsList-from_range 0 s.count s.count refl (omega arith)) (λ x b q k. search rules)
    ∙ sym (below_range (record_stands s.read.now) s.count)
