-- `numbers::fields_fit` meets its contract. Assumes nothing.
use Rattle.std.proofs.Common.{rules, ◌^◌, ltb, ℕ, ◌∙◌}
use Rattle.std.proofs.lemmas.Iterator.{YieldsList-from_slice, YieldsList-from_zip}
use Rattle.std.proofs.lemmas.Iterator.Search.{all_from_yields_List}
use Rattle.numbers.proofs.Turn.{fit_zip}
use Rattle.numbers.proofs.fields_fit.Goals as goal

pub returns-then-ws-v : goal.returns-then-ws-v
returns-then-ws-v c =
    let ws = c.args.ws.now in
    let v = c.args.v.now in
    all_from_yields_List (λ (p : ℕ × ℕ). ltb p.1 (256 ^ p.0)) c.all.new.self _ _ c.all.ensures.ran
    (YieldsList-from_zip (YieldsList-from_slice ws (search rules))
    (YieldsList-from_slice v (search rules)))
    (λ x b q k. search rules)
    ∙ fit_zip ws v c.if-ws-v.true
