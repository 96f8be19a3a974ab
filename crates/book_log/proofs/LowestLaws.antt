-- Laws: the lowest stamp of a table alone says what is known everywhere and what may go. Assumes nothing.
--     everywhere_lowest   known everywhere, by the lowest stamp
--     may_go_lowest        may go, by the lowest stamp
use Rattle.std.specs.Prelude.{ℕ, zero, suc, ◌≤◌, min, ◌≡◌, refl, Bool, ◌&&◌, List, [], ◌∷◌, T}
use Rattle.std.proofs.Common.{arith, leb→le}
use Rattle.std.proofs.Math.Path.{ap}
use Rattle.std.proofs.Math.Dec.{leb, le→leb}
use Rattle.lists.specs.Tests.{every}
use Rattle.lists.specs.TestLaws.{◌∈◌, every-at, and_l, and_r, both, same_test}
use Rattle.stamp.specs.Stamp.{Stamp, part}
use Rattle.ledger.specs.Record.{Record, knows, is_applied, everywhere, may_go}
use Rattle.book_log.specs.Lowest.{meet, lowest_from, goes_by}

pub part-meet : (a b : Stamp) (k : ℕ) → part (meet a b) k ≡ min (part a k) (part b k)
part-meet [] b k = omega arith
part-meet (x ∷ a) [] k = omega arith
part-meet (x ∷ a) (y ∷ b) zero = refl
part-meet (x ∷ a) (y ∷ b) (suc k) = part-meet a b k

-- a number at most the lowest part is at most the stamp's and at most each row's
lowest-first : (s : Stamp) (rows : List Stamp) (k : ℕ) → part (lowest_from s rows) k ≤ part s k
unfolding lowest_from
lowest-first s [] k = omega arith
lowest-first s (r ∷ rows) k = omega (arith, lowest-first (meet s r) rows k, part-meet s r k)

lowest_under : (s : Stamp) (rows : List Stamp) (k q : ℕ) → q ≤ part (lowest_from s rows) k
    → T (every (λ row. leb q (part row k)) rows)
unfolding lowest_from
lowest_under s [] k q h = tt
lowest_under s (r ∷ rows) k q h =
    both (leb q (part r k)) (every (λ row. leb q (part row k)) rows)
    (le→leb q (part r k) (omega (arith, lowest-first (meet s r) rows k, part-meet s r k)))
    (lowest_under (meet s r) rows k q h)

under_lowest : (s : Stamp) (rows : List Stamp) (k q : ℕ) → q ≤ part s k → T (every (λ row. leb q (part row k)) rows)
    → q ≤ part (lowest_from s rows) k
unfolding lowest_from
under_lowest s [] k q h t = h
under_lowest s (r ∷ rows) k q h t =
    under_lowest (meet s r) rows k q
    (omega (
      arith,
      part-meet s r k,
      leb→le q (part r k) (and_l (leb q (part r k)) (every (λ row. leb q (part row k)) rows) t),
    ))
    (and_r (leb q (part r k)) (every (λ row. leb q (part row k)) rows) t)

module _ (s : Stamp) (rows : List Stamp) (among : s ∈ rows) where
  pub everywhere_lowest : (k q : ℕ) → everywhere rows k q ≡ leb q (part (lowest_from s rows) k)
  unfolding everywhere knows
  everywhere_lowest k q =
      same_test (every (λ row. leb q (part row k)) rows) (leb q (part (lowest_from s rows) k))
      (λ t. le→leb q (part (lowest_from s rows) k)
      (under_lowest s rows k q (leb→le q (part s k) (every-at (λ row. leb q (part row k)) rows t among)) t))
      (λ t. lowest_under s rows k q (leb→le q (part (lowest_from s rows) k) t))

  pub may_go_lowest : (y : Stamp) (r : Record) → may_go y rows r ≡ goes_by y (lowest_from s rows) r
  unfolding may_go goes_by
  may_go_lowest y r = ap (λ (b : Bool). is_applied y r && b) (everywhere_lowest r.origin r.number)
