-- A well formed message whose head was read as sender, screens, count and stamp. Assumes nothing.
use Rattle.std.specs.Prelude.{ℕ, ◌≡◌, List}
use Rattle.stamp.specs.Parts.{list_of}
use Rattle.stamp.specs.Stamp.{Stamp}
use Rattle.wire.specs.declared.Head as wire
use Rattle.wire.specs.Head.{sender_in, count_in}
use Rattle.arrivals.specs.Head.{Head}

pub record Heard (bytes : List ℕ) (sender screens count : ℕ) (m : Stamp) : Type 0 where
  pub head : Head bytes screens m
  pub from : sender_in bytes ≡ sender
  pub number : count_in bytes ≡ count

-- the same of a head as its reader gives it
abbrev pub Hears : List ℕ → wire.Head → Type 0
Hears bytes h = Heard bytes h.sender h.screens h.count (list_of h.stamp)
