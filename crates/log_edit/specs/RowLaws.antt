-- Laws: the first rows of a region as records. Assumes nothing.
--     records_add    some rows, and those behind them
--     records-split  of the first i rows the first n, and those from the n-th on
--     records_snoc   one row more
--     records-same   two regions with the same first words hold the same first records
--     flat-records   the records laid out again are the region's first words
--     words-after    the words of the rows from the n-th up to the i-th
--     take-before    the words before a part that is put
use Rattle.std.specs.Prelude.{ℕ, zero, suc, ◌+◌, ◌-◌, ◌*◌, ◌≤◌, ◌≡◌, refl, List, [], ◌∷◌, ◌++◌, map, length, take, drop}
use Rattle.std.proofs.Common.{arith, sym, ap, ap₂, ◌∙◌, length-drop, take-append-drop, length-take-le, drop-drop}
use Rattle.std.proofs.Common.{take-add}
use Rattle.std.proofs.lemmas.List.{take-append-le, drop-append-le}
use Rattle.lists.specs.Part.{mid, patch, mid-patch-before}
use Rattle.lists.specs.Rows.{rows, flat}
use Rattle.ledger.specs.Record.{Record}
use Rattle.book_log.specs.Region.{row_long, record_at, row_of, records_at}
use Rattle.book_log.specs.RegionLaws.{row_record_lem}
use Rattle.book_log.specs.Walk.{records_from, row_record}

pub records_add : (n m : ℕ) (l : List ℕ) → records_at (n + m) l ≡ records_at n l ++ records_at m (drop (n * row_long) l)
unfolding records_at rows
records_add zero m l =
    let e : 0 + m ≡ m = omega arith in
    rw e
records_add (suc n) m l =
    let e : suc n + m ≡ suc (n + m) = omega arith in
    let f : suc n * row_long ≡ row_long + n * row_long = omega arith in
    rw (e, f, ← drop-drop (n * row_long) row_long l)
    (ap (λ (rs : List Record). record_at (take row_long l) ∷ rs) (records_add n m (drop row_long l)))

pub records-split : (i n : ℕ) (l : List ℕ) → n ≤ i → records_at i l ≡ records_at n l
    ++ records_from i l n (n * row_long)
unfolding records_from
records-split i n l h =
    let e : i ≡ n + (i - n) = omega arith in
    ap (λ (k : ℕ). records_at k l) e ∙ records_add n (i - n) l

pub records_snoc : (n : ℕ) (l : List ℕ) → records_at (n + 1) l ≡ records_at n l ++ (row_record l (n * row_long) ∷ [])
unfolding records_at rows row_record
records_snoc n l = records_add n 1 l

records-front : (n : ℕ) (p q : List ℕ) → n * row_long ≤ length p → records_at n (p ++ q) ≡ records_at n p
unfolding records_at rows
records-front zero p q h = refl
records-front (suc n) p q h =
    let e : row_long ≤ length p = omega arith in
    rw (take-append-le row_long p q e, drop-append-le row_long p q e)
    (ap (λ (rs : List Record). record_at (take row_long p) ∷ rs)
    (records-front n (drop row_long p) q (simp length-drop (omega arith))))

pub records-same : (n : ℕ) (l m : List ℕ) → n * row_long ≤ length l → n * row_long ≤ length m
    → take (n * row_long) l ≡ take (n * row_long) m → records_at n l ≡ records_at n m
records-same n l m h k e = sym (front l h) ∙ ap (records_at n) e ∙ front m k
  where
    front : (r : List ℕ) → n * row_long ≤ length r → records_at n (take (n * row_long) r) ≡ records_at n r
    front r j =
        let f : n * row_long ≤ length (take (n * row_long) r) = rw (length-take-le (n * row_long) r j) (omega arith) in
        sym (records-front n (take (n * row_long) r) (drop (n * row_long) r) f)
        ∙ ap (records_at n) (take-append-drop (n * row_long) r)

pub flat-records : (n : ℕ) (l : List ℕ) → n * row_long ≤ length l
    → flat (map row_of (records_at n l)) ≡ take (n * row_long) l
unfolding records_at rows flat
flat-records zero l h = refl
flat-records (suc n) l h =
    let e : suc n * row_long ≡ row_long + n * row_long = omega arith in
    rw (e, take-add row_long (n * row_long) l)
    (ap₂ ◌++◌ (row_record_lem (take row_long l) (length-take-le row_long l (omega arith)))
    (flat-records n (drop row_long l) (simp length-drop (omega arith))))

pub words-after : (i n : ℕ) (l : List ℕ) → n ≤ i → i * row_long ≤ length l
    → flat (map row_of (records_from i l n (n * row_long))) ≡ mid (n * row_long) (i * row_long - n * row_long) l
unfolding records_from mid
words-after i n l h k =
    let e : i * row_long - n * row_long ≡ (i - n) * row_long = omega arith in
    flat-records (i - n) (drop (n * row_long) l) (simp length-drop (omega arith)) ∙ rw e

-- the words before a part that is put
pub take-before : (a k : ℕ) (r ys : List ℕ) (b : ℕ) → a + k ≤ length r → length ys ≡ k → b ≤ a
    → take b (patch a k r ys) ≡ take b r
unfolding mid
take-before a k r ys b h e l = mid-patch-before a k r ys h e 0 b (omega arith)
