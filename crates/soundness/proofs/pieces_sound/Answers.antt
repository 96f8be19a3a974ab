-- `soundness::pieces_sound` meets its contract: the known stamp is row i of the table. Assumes nothing.
use mathlib.Core.Path.{sym, subst, ◌∙◌}
use lib.Dec.{T}
use lib.ListN.{length, get_or}
use mathlib.Core.List.{[]}
use Rattle.lists.specs.TestLaws.{given}
use Rattle.stamp.specs.Laws.{fits-words}
use Rattle.soundness.specs.Clauses.{fit_rules}
use Rattle.soundness.proofs.Turn.{row_fits}
use Rattle.soundness.proofs.pieces_sound.Goals as goal

pub regions_sound-requires-clause-t : goal.regions_sound-requires-clause-t
unfolding fit_rules
regions_sound-requires-clause-t c =
    let p = c.args.p.now in
    let n = length p.table.now in
    let fit = given (fit_rules n p.table.now p.value.now)
    (subst T (sym (sym c.stamps_fit.ensures ∙ c.if-stamps_fit.true)) tt)
    (λ rows_fit value-fits. rows_fit) in
    fits-words n (get_or p.table.now c.args.i []) (row_fits n c.args.i p.table.now c.requires.i_in_bounds.0 fit)
