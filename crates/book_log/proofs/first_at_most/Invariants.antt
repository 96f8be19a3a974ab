-- `book_log::first_at_most` meets its contract. The invariant: what the parts below k decide is what all decide.
-- Assumes nothing.
use mathlib.Core.Path.{◌≡◌}
use lib.Dec.{leb}
use Rattle.lists.specs.Tests.{all_below}
use Rattle.stamp.specs.Stamp.{part}
use Rattle.book_log.proofs.first_at_most.Given as goal

abbrev pub invariant-loop-k : goal.invariant-loop-k
invariant-loop-k l =
    all_below l.n (λ j. leb (part l.a j) (part l.b j)) ≡ all_below l.k (λ j. leb (part l.a j) (part l.b j))
