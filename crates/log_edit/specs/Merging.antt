-- A merge from the back on its way, as the invariant of a loop that slides in the new records, the last first. Assumes
-- nothing.
use Rattle.std.specs.Prelude.{ℕ, ◌-◌, ◌*◌, ◌≤◌, ◌≡◌, refl, List, [], ◌∷◌, ◌++◌, length}
use Rattle.std.proofs.Common.{arith, sym, ◌∙◌}
use Rattle.ledger.specs.Record.{Record}
use Rattle.book_log.specs.Region.{row_long, record_at, records_at}
use Rattle.log_edit.specs.Merge.{Fresh, Slid, merged}
use Rattle.log_edit.specs.WordLaws.{merged-turn, fresh-turn, merged-end}

-- of `new`, which goes into the first rows of r₀, the records of `rest` are still to come into the first i rows of r
pub record Merging (new : List Record) (count n : ℕ) (r₀ : List ℕ) (rest : List Record) (i gap : ℕ) (r : List ℕ) : Type
    0 where
  pub fewer : i ≤ count
  pub long : length r ≡ length r₀
  pub fresh : Fresh rest (records_at i r)
  pub same : merged new count n r₀ ≡ merged rest i gap r

pub merging_start : (new : List Record) (count n : ℕ) (r : List ℕ) → Fresh new (records_at count r)
    → Merging new count n r new count n r
merging_start new count n r f = record { fewer = omega arith; long = refl; fresh = f; same = refl }

pub merging-turn :
    {new : List Record} {count n : ℕ} {r₀ : List ℕ} {rest : List Record} {i gap : ℕ} {row old r : List ℕ} {k : ℕ}
    → Merging new count n r₀ (rest ++ (record_at row ∷ [])) i gap old → length row ≡ row_long → Slid i gap row old r k
    → Merging new count n r₀ rest k (gap - 1) r
merging-turn {rest = rest} {i = i} {gap = gap} {row = row} {old = old} {r = r} {k = k} m w s =
    record {
      fewer = omega (arith, m.fewer, s.fewer);
      long = s.long ∙ m.long;
      fresh = fresh-turn rest i gap row old r k w m.fresh s;
      same = m.same ∙ merged-turn rest i gap row old r k w m.fresh s;
    }

pub merging-end : {new : List Record} {count n : ℕ} {r₀ : List ℕ} {i : ℕ} {r : List ℕ} → Merging new count n r₀ [] i 0 r
    → i * row_long ≤ length r → r ≡ merged new count n r₀
merging-end {i = i} {r = r} m h = sym (m.same ∙ merged-end i r h)
