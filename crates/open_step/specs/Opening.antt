-- What an opening says, and what open answers and leaves. Assumes nothing.
use Rattle.std.specs.Prelude.{ℕ, ◌≡◌, List, Result, Ok, Err}
use Rattle.std.proofs.Math.Option.{Option, none, some}
use Rattle.meaning.specs.Reply.{Reply, refusal}
use Rattle.promise.specs.Lent.{Opened}
use Rattle.wire.specs.Refusal.{table_number}
use Rattle.wire.specs.declared.Refusal.{Refusal}

-- what open answers: nothing, or why it is refused
abbrev pub Opening : Type 0
Opening = Result (Unit {0}) Refusal

-- this paper's number for a refusal
abbrev pub spoken_opening : Opening → Option Reply
spoken_opening (Ok u) = none
spoken_opening (Err r) = some (refusal (table_number r))

-- what open answers and leaves is just this
pub record Opens (o : Opened) (r : Opening) (words : List ℕ) : Type 0 where
  pub answers : spoken_opening r ≡ o.refused
  pub leaves : words ≡ o.words
