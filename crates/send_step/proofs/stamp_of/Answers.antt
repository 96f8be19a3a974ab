-- `send_step::stamp_of` meets its contract. Assumes nothing.
use Rattle.stamp.specs.PartsLaws.{whole-stamp}
use Rattle.meaning.specs.Book.{known}
use Rattle.meaning.specs.BookLaws.{me_in, known-fits}
use Rattle.lent.specs.SoundWords.{lawful-sound}
use Rattle.lent.specs.Words.{book_of}
use Rattle.send_step.proofs.stamp_of.Goals as goal

pub known_of-s-requires-clause-b_bound : goal.known_of-s-requires-clause-b_bound
known_of-s-requires-clause-b_bound c = me_in (book_of c.args.b.now) (lawful-sound c.args.b.now c.requires)

pub returns : goal.returns
returns c =
    let ws = c.args.b.now in
    rw (c.parts_at.ensures, c.known_of-s.ensures.0)
    (whole-stamp (known (book_of ws)) (known-fits (book_of ws) (lawful-sound ws c.requires)).long)
