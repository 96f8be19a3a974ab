-- An opening as the one number that a host gets. Assumes nothing.
use Rattle.std.specs.Prelude.{ℕ, ◌≡◌, cond, List, eqb}
use Rattle.std.proofs.Math.Option.{Option, none, some}
use Rattle.meaning.specs.Reply.{Reply, refusal}
use Rattle.promise.specs.Lent.{Opened}

-- 0 says that the book is open, any other number is the refusal's
abbrev pub refused_as : ℕ → Option Reply
refused_as k = cond (eqb k 0) none (some (refusal k))

-- what opening answers and leaves is just this
pub record OpensAs (o : Opened) (k : ℕ) (words : List ℕ) : Type 0 where
  pub answers : refused_as k ≡ o.refused
  pub leaves : words ≡ o.words
