-- `vectors::compare::count_alike` meets its contract. Assumes nothing.
use Rattle.std.proofs.Common.{rules, ℕ, Bool, eqb, sym, ◌∙◌}
use Rattle.std.specs.List.{zip}
use Rattle.std.proofs.lemmas.Iterator.{YieldsList-from_slice, YieldsList-from_zip}
use Rattle.std.proofs.lemmas.Iterator.Consumers.{count_from_yields_List}
use Rattle.std.proofs.lemmas.Iterator.Search.{YieldsList-from_take_while}
use Rattle.std.proofs.lemmas.List.Folds.{length-prefix_len}
use Rattle.vectors.specs.CompareLaws.{alike_zip}
use Rattle.vectors.proofs.compare.count_alike.Goals as goal

agree : ℕ × ℕ → Bool
agree p = eqb p.0 p.1

pub returns : goal.returns
unfolding agree
returns c =
    let said = c.args.said.now in
    let expected = c.args.expected.now in
    count_from_yields_List c.take_while.result _ c.count.ensures.ran
    (YieldsList-from_take_while _ agree
    (YieldsList-from_zip (YieldsList-from_slice said (search rules)) (YieldsList-from_slice expected (search rules)))
    c.take_while.ensures.closure c.take_while.ensures.done (λ x b q k. search rules))
    ∙ length-prefix_len agree (zip said expected) ∙ sym (alike_zip said expected)
