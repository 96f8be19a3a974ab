-- `tap_step::is_spent` meets its contract. Assumes nothing.
use Prim.Native.Nat.{◌≤◌}
use mathlib.Core.Path.{ap, sym, subst, ◌∙◌, ap₂}
use lib.Dec.{T, leb, ltb}
use lib.ListN.{length}
use Rattle.lists.specs.Tests.{every}
use Rattle.limits.specs.Limits.{parts, word}
use Rattle.stamp.specs.Stamp.{Stamp, total}
use Rattle.meaning.specs.BookLaws.{me_in}
use Rattle.lent.specs.SoundWords.{lawful-sound, lawful-held}
use Rattle.lent.specs.Words.{book_of}
use Rattle.tap_step.proofs.Turn.{known-words}
use Rattle.tap_step.proofs.is_spent.Goals as goal

pub known_of-s-requires : goal.known_of-s-requires
known_of-s-requires c =
    record {
      held = lawful-held c.args.b.now c.requires;
      b_bound = me_in (book_of c.args.b.now) (lawful-sound c.args.b.now c.requires);
    }

pub sum-requires : goal.sum-requires
sum-requires c =
    let all = subst (λ (x : Stamp). (length x ≤ parts) × T (every (λ y. ltb y word) x)) (sym c.known_of-s.ensures.0)
    (known-words (book_of c.args.b.now) (lawful-sound c.args.b.now c.requires)) in
    record { s_len_bound = all.0; t = all.1 }

pub returns : goal.returns
returns c =
    ap₂ leb c.book_room.ensures (c.sum.ensures ∙ ap total c.known_of-s.ensures.0)
