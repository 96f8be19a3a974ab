-- `consent::consent_book_words` meets its contract. Assumes nothing.
use mathlib.Core.Path.{refl}
use Rattle.lent.specs.Words.{book_long}
use Rattle.consent.proofs.consent_book_words.Goals as goal

pub returns : goal.returns
unfolding book_long
returns c = refl
