-- Rows dropped: one turn and the end of the pass over the rows, and of the zeros behind them. Assumes nothing.
use Prim.Native.Nat.{ℕ, ◌+◌, ◌-◌, ◌*◌, ◌≤◌, ◌<◌}
use native.Mathlib.Omega.{arith}
use mathlib.Core.Path.{◌≡◌, refl, sym, ap, ap₂, ◌∙◌}
use mathlib.Core.Bool.{true, false}
use mathlib.Core.List.{List, [], ◌∷◌, ◌++◌, append_assoc, append-nil}
use lib.ListN.{length, take, drop, replicate, take-append-drop}
use lib.Seq.{drop-drop}
use Rattle.lists.specs.Part.{mid, patch, length-mid, length-patch, mid-patch, drop_past}
use Rattle.lists.specs.Rows.{rows}
use Rattle.stamp.specs.Stamp.{Stamp}
use Rattle.ledger.specs.Record.{Record}
use Rattle.book_log.specs.Region.{row_long, record_at, records_at}
use Rattle.book_log.specs.RegionLaws.{length-records}
use Rattle.book_log.specs.Lowest.{goes_by}
use Rattle.book_log.specs.Walk.{records_from, row_record, records-all, records-next, records-none}
use Rattle.log_edit.specs.Merge.{stayers, dropped}
use Rattle.log_edit.specs.RowLaws.{records_snoc, records-same, take-before, flat-records}

-- a row over itself
pub patch_self : (a k : ℕ) (r : List ℕ) → patch a k r (mid a k r) ≡ r
unfolding mid patch
patch_self a k r = ap (λ (l : List ℕ). take a r ++ l) (take-append-drop k (drop a r)) ∙ take-append-drop a r

-- of the rows from the i-th of n on, the records that stay
abbrev to_come : Stamp → Stamp → ℕ → List ℕ → ℕ → List Record
to_come ready low n r i = stayers ready low (records_from n r i (i * row_long))

-- the pass, from the front: the rows from the i-th on are as they were, and what stays is what is kept and what is to
-- come
pub record Closing (ready low : Stamp) (n : ℕ) (r₀ r : List ℕ) (kept i : ℕ) : Type 0 where
  pub within : i ≤ n
  pub fewer : kept ≤ i
  pub long : length r ≡ length r₀
  pub rest : drop (i * row_long) r ≡ drop (i * row_long) r₀
  pub all :
      stayers ready low (records_at n r₀) ≡ records_at kept r ++ stayers ready low (records_from n r₀ i (i * row_long))

pub closing_start : (ready low : Stamp) (n : ℕ) (r : List ℕ) → Closing ready low n r r 0 0
unfolding records_at rows
closing_start ready low n r =
    let all = ap (stayers ready low) (records-all n r) in
    record { within = omega arith; fewer = omega arith; long = refl; rest = refl; all = all }

module _ {ready low : Stamp} {n : ℕ} {r₀ r : List ℕ} {kept i : ℕ} (c : Closing ready low n r₀ r kept i) where
  ahead : i < n → records_from n r₀ i (i * row_long)
      ≡ row_record r (i * row_long) ∷ records_from n r₀ (i + 1) ((i + 1) * row_long)
  unfolding row_record
  ahead h =
      let e : (i + 1) * row_long ≡ i * row_long + row_long = omega arith in
      rw (e, c.rest) (records-next n r₀ i (i * row_long) h)

  rest-on : drop ((i + 1) * row_long) r ≡ drop ((i + 1) * row_long) r₀
  rest-on =
      let e : (i + 1) * row_long ≡ i * row_long + row_long = omega arith in
      rw e (sym (drop-drop row_long (i * row_long) r) ∙ ap (drop row_long) c.rest
      ∙ drop-drop row_long (i * row_long) r₀)

  goes_on :
      i < n → goes_by ready low (row_record r (i * row_long)) ≡ true
      → to_come ready low n r₀ i ≡ to_come ready low n r₀ (i + 1)
  unfolding stayers
  goes_on h e = rw (ahead h, e)

  stays_on :
      i < n → goes_by ready low (row_record r (i * row_long)) ≡ false
      → to_come ready low n r₀ i ≡ row_record r (i * row_long) ∷ to_come ready low n r₀ (i + 1)
  unfolding stayers
  stays_on h e = rw (ahead h, e)

  -- the i-th row goes
  pub closing-off : i < n → goes_by ready low (row_record r (i * row_long)) ≡ true
      → Closing ready low n r₀ r kept (i + 1)
  closing-off h e =
      let f = c.fewer in
      record {
        within = omega arith;
        fewer = omega arith;
        long = c.long;
        rest = rest-on;
        all = c.all
            ∙ ap (λ (rs : List Record). records_at kept r ++ rs) (goes_on h e);
      }

  -- it stays, and is moved behind the rows kept
  module _ (h : i < n) (fits : n * row_long ≤ length r₀) where
    abbrev row : List ℕ
    row = mid (i * row_long) row_long r

    room : kept * row_long + row_long ≤ length r
    room = omega (arith, c.fewer, c.long)

    wide : length row ≡ row_long
    wide = length-mid (i * row_long) row_long r (omega (arith, c.long))

    one_more : records_at (kept + 1) (patch (kept * row_long) row_long r row)
        ≡ records_at kept r ++ (row_record r (i * row_long) ∷ [])
    unfolding row_record mid
    one_more =
        let p = patch (kept * row_long) row_long r row in
        let l : length p ≡ length r = length-patch (kept * row_long) row_long r row room wide in
        let k = room in
        records_snoc kept p
        ∙ ap₂ (λ (rs : List Record) (x : List ℕ). rs ++ (record_at x ∷ []))
        (records-same kept p r (omega arith) (omega arith)
        (take-before (kept * row_long) row_long r row (kept * row_long) k wide (omega arith)))
        (mid-patch (kept * row_long) row_long r row k wide)

    pub closing-on :
        goes_by ready low (row_record r (i * row_long)) ≡ false
        → Closing ready low n r₀ (patch (kept * row_long) row_long r (mid (i * row_long) row_long r)) (kept + 1) (i + 1)
    closing-on e =
        let f = c.fewer in
        let moved : List Record = row_record r (i * row_long) ∷ [] in
        let to-come = to_come ready low n r₀ (i + 1) in
        record {
          within = omega arith;
          fewer = omega arith;
          long = length-patch (kept * row_long) row_long r row room wide ∙ c.long;
          rest = drop_past (kept * row_long) row_long r row room wide ((i + 1) * row_long) (omega arith) ∙ rest-on;
          all = c.all ∙ rw (stays_on h e, one_more) (sym (append_assoc (records_at kept r) moved to-come));
        }

  -- no row is left
  module _ (h : n ≡ i) where
    at-end : stayers ready low (records_at n r₀) ≡ records_at kept r
    unfolding stayers
    at-end = c.all ∙ rw (records-none n r₀ i (i * row_long) (omega arith)) (append-nil (records_at kept r))

    pub kept-length : kept ≡ length (stayers ready low (records_at n r₀))
    kept-length = sym (ap length at-end ∙ length-records kept r)

    pub closing_end :
        (new : List ℕ) → n * row_long ≤ length r₀
        → new ≡ take (kept * row_long) r ++ (replicate (n * row_long - kept * row_long) 0 ++ drop (n * row_long) r)
        → new ≡ dropped ready low n r₀
    unfolding dropped
    closing_end new fits e =
        let l : kept * row_long ≤ length r = omega (arith, c.fewer, c.long) in
        let z : n * row_long - kept * row_long ≡ (n - kept) * row_long = omega arith in
        e ∙ rw (at-end, length-records kept r, flat-records kept r l, z, h, c.rest)
