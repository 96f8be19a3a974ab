-- `tap_step::new_row` meets its contract. Assumes nothing.
use native.Mathlib.Omega.{arith}
use Rattle.meaning.specs.Book.{known}
use Rattle.lent.specs.Words.{book_of}
use Rattle.tap_step.proofs.Turn.{new_made}
use Rattle.limits.specs.Limits.{word}
use Rattle.stamp.specs.Stamp.{part}
use Rattle.stamp.specs.Parts.{list_of}
use mathlib.Core.Path.{◌≡◌, ap₂, ◌∙◌}
use Rattle.tap_step.proofs.new_row.Goals as goal

pub overflow_add-part_at : goal.overflow_add-part_at
unfolding word
overflow_add-part_at c =
    let own : (let ws = c.args.b.now in
    c.part_at.result ≡ part (known (book_of ws)) (book_of ws).me) =
    c.part_at.ensures ∙ ap₂ part c.known_of-s.ensures.0 c.screen_of-i.ensures in
    record { fits = omega (arith, own, c.requires.b_bound_2) }

pub returns : goal.returns
returns c =
    let own : (let ws = c.args.b.now in
    c.part_at.result ≡ part (known (book_of ws)) (book_of ws).me) =
    c.part_at.ensures ∙ ap₂ part c.known_of-s.ensures.0 c.screen_of-i.ensures in
    let l = list_of c.args.label in
    let made = new_made c.args.b.now _ _ c.args.w l c.requires.t c.screen_of-i.ensures (own) in
    c.make_row.ensures ∙ made
