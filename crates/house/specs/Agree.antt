-- Two books agree in all that a question is answered from. Assumes nothing.
use Rattle.std.specs.Prelude.{◌≡◌}
use Rattle.meaning.specs.Book.{Book}

pub record Agrees (b c : Book) : Type 0 where
  pub counted : b.counted ≡ c.counted
  pub prompts : b.prompts ≡ c.prompts
  pub value : b.value ≡ c.value
