-- Laws: where the table's rows and the log's records stand in words that hold a book, and a row put among them. Assumes
-- nothing.
--     row_words      a row of the table
--     put-row        another in its place
--     record-words   a record of the log, by its row
use Rattle.std.specs.Prelude.{ℕ, zero, suc, ◌+◌, ◌-◌, ◌*◌, ◌≤◌, ◌<◌, ◌≡◌, List, [], ◌∷◌, ◌++◌, length, get_or, set}
use Rattle.std.specs.Prelude.{take, drop, replicate}
use Rattle.std.proofs.Common.{zero-mul, suc-mul, arith, ap, ◌∙◌, append_assoc, length-set, length-take, length-drop}
use Rattle.std.proofs.Common.{take-append-drop, drop_at, take-add, take-take, drop-drop, get_or-take, get_or-drop}
use Rattle.std.proofs.Math.Path.{refl, sym}
use Rattle.std.proofs.Math.ListN.{get_or-map}
use Rattle.std.proofs.lemmas.List.{drop-append-le}
use Rattle.std.proofs.Math.Seq.{take-append-add, drop-append-add}
use Rattle.lists.specs.Part.{mid, patch, length-mid, mid-mid}
use Rattle.lists.specs.RowLaws.{Wide, rows_at}
use Rattle.lists.specs.Rows.{rows, flat}
use Rattle.limits.specs.Limits.{parts, most}
use Rattle.stamp.specs.Parts.{parts_at, list_of}
use Rattle.stamp.specs.PartsLaws.{list-parts}
use Rattle.stamp.specs.Stamp.{Stamp}
use Rattle.ledger.specs.Record.{Record}
use Rattle.book_log.specs.Region.{row_long, record_at, records_at, body_place}
use Rattle.book_log.specs.RegionLaws.{length-records}
use Rattle.meaning.specs.Book.{row}
use Rattle.lent.specs.Held.{Held, piece-within, piece-words, put-table}
use Rattle.lent.specs.With.{with_table}
use Rattle.lent.specs.Words.{Screens, Logged, Table, Log, size, from, piece, number_in, table_words, words_of}
use Rattle.lent.specs.Words.{book_of}

-- what stands past the end of a log
abbrev pub no_record : Record
no_record = record_at []

-- a row of a part, by its place in the whole
part-row : (a k w n : ℕ) (ws : List ℕ) (j : ℕ) → j < n → j * w + w ≤ k
    → get_or (rows w n (mid a k ws)) j [] ≡ mid (a + j * w) w ws
unfolding mid
part-row a k w n ws j h l = rows_at w n (mid a k ws) j h ∙ mid-mid a k (j * w) w ws l

-- the i-th of a log's records
record-at : (a k n : ℕ) (ws : List ℕ) (i : ℕ) → i < n → i * row_long + row_long ≤ k
    → get_or (records_at n (mid a k ws)) i no_record ≡ record_at (mid (a + i * row_long) row_long ws)
unfolding records_at
record-at a k n ws i h l =
    get_or-map record_at (rows row_long n (mid a k ws)) i [] ∙ ap record_at (part-row a k row_long n ws i h l)

-- a part put into a part
pub patch-within : (a k x m : ℕ) (xs v : List ℕ) → x + m ≤ k → a + k ≤ length xs
    → patch (a + x) m xs v ≡ patch a k xs (patch x m (mid a k xs) v)
unfolding patch mid
patch-within a k x m xs v h l =
    let r = drop a xs in
    let few : x + m ≤ length (take k r) = simp (length-take, length-drop) (omega arith) in
    let front : take (a + x) xs ≡ take a xs ++ take x (take k r) = take-add a x xs
    ∙ ap (λ (l' : List ℕ). take a xs ++ l') (sym (take-take x k r (omega arith))) in
    let back : drop m (drop (a + x) xs) ≡ drop m (drop x (take k r)) ++ drop k r =
    drop-drop m (a + x) xs ∙ cut ∙ sym (drop-drop (x + m) a xs) ∙ ap (drop (x + m)) (sym (take-append-drop k r))
    ∙ drop-append-le (x + m) (take k r) (drop k r) few
    ∙ ap (λ (l' : List ℕ). l' ++ drop k r) (sym (drop-drop m x (take k r))) in
    rw (front, back, append_assoc, append_assoc, append_assoc)
  where
    cut : drop (a + x + m) xs ≡ drop (a + (x + m)) xs
    cut = let e : a + x + m ≡ a + (x + m) = omega arith in rw e

-- one row put among rows that are laid out one after the other
rows-put : (w : ℕ) (rs : List (List ℕ)) (j : ℕ) (q v : List ℕ) → Wide w rs → j < length rs
    → patch (j * w) w (flat rs ++ q) v ≡ flat (set rs j v) ++ q
unfolding patch flat Wide
rows-put w [] j q v h l = absurd (omega arith)
rows-put w (r ∷ rs) zero q v h l =
    rw (append_assoc r (flat rs) q, zero-mul w, drop_at r (flat rs ++ q) w h.0) (sym (append_assoc v (flat rs) q))
rows-put w (r ∷ rs) (suc j) q v h l =
    let z = flat rs ++ q in
    let e : suc j * w ≡ length r + j * w = suc-mul j w ∙ omega (arith, h.0) in
    rw (
      append_assoc r (flat rs) q,
      e,
      take-append-add r z (j * w),
      drop-append-add r z (j * w),
      append_assoc r (take (j * w) z) (v ++ drop w (drop (j * w) z)),
      rows-put w rs j q v h.1 (omega arith),
    )
    (sym (append_assoc r (flat (set rs j v)) q))

table-put : (rs : List Stamp) (j : ℕ) (v : Stamp) → Wide parts rs → j < length rs
    → patch (j * parts) parts (table_words rs) v ≡ table_words (set rs j v)
unfolding table_words
table-put rs j v h l =
    rows-put parts rs j (replicate ((most - length rs) * parts) 0) v h l
    ∙ ap (λ (n : ℕ). flat (set rs j v) ++ replicate ((most - n) * parts) 0) (sym (length-set rs j v))

module _ (ws : List ℕ) (h : Held ws) where
  module _ (j : ℕ) (l : j < (book_of ws).screens) where
    row_fits : j * parts + parts ≤ size Table
    unfolding size
    row_fits = omega (arith, l, h.shape.screens-few)

    pub row_within : from Table + j * parts + parts ≤ length ws
    row_within = omega (arith, row_fits, piece-within ws h Table)

    pub row_words : mid (from Table + j * parts) parts ws ≡ row (book_of ws) j
    unfolding book_of row
    row_words = sym (part-row (from Table) (size Table) parts (number_in Screens ws) ws j l row_fits)

    pub row-long : length (row (book_of ws) j) ≡ parts
    row-long = ap length (sym row_words) ∙ length-mid (from Table + j * parts) parts ws row_within

    pub put-row : (v : Stamp)
        → patch (from Table + j * parts) parts ws v ≡ words_of (with_table (set (book_of ws).table j v) (book_of ws))
    put-row v =
        let b = book_of ws in
        patch-within (from Table) (size Table) (j * parts) parts ws v row_fits (piece-within ws h Table)
        ∙ ap (patch (from Table) (size Table) ws)
        (ap (λ (t : List ℕ). patch (j * parts) parts t v) (piece-words ws h Table)
        ∙ table-put b.table j v h.shape.rows-wide (omega (arith, h.shape.rows_long, l)))
        ∙ put-table ws h (set b.table j v)

  log-number : (book_of ws).log ≡ records_at (number_in Logged ws) (piece Log ws)
  unfolding book_of
  log-number = refl

  module _ (i : ℕ) (l : i < length (book_of ws).log) where
    record-fits : i * row_long + row_long ≤ size Log
    unfolding size
    record-fits = omega (arith, l, h.shape.log-few)

    pub record-within : from Log + i * row_long + row_long ≤ length ws
    record-within = omega (arith, record-fits, piece-within ws h Log)

    pub record-words : get_or (book_of ws).log i no_record ≡ record_at (mid (from Log + i * row_long) row_long ws)
    record-words =
        let e : i < number_in Logged
        ws = omega (arith, l, ap length log-number, length-records (number_in Logged ws) (piece Log ws)) in
        ap (λ (rs : List Record). get_or rs i no_record) log-number
        ∙ record-at (from Log) (size Log) (number_in Logged ws) ws i e record-fits

-- a row of the log, read word by word
pub row_read :
    (a : ℕ) (ws : List ℕ) → a + row_long ≤ length ws
    → record {
      origin = get_or ws (a + 0) 0;
      number = get_or ws (a + 1) 0;
      label = list_of (parts_at (a + 2) ws);
      body = get_or ws (a + body_place) 0;
    } ≡ record_at (mid a row_long ws)
unfolding mid
row_read a ws h =
    let label : list_of (parts_at (a + 2) ws)
    ≡ take parts (drop 2 (take row_long (drop a ws))) =
    list-parts (a + 2) ws (omega arith) ∙ sym (mid-mid a row_long 2 parts ws (omega arith)) in
    λ i. record {
      origin = word 0 (omega arith) i;
      number = word 1 (omega arith) i;
      label = label i;
      body = word body_place (omega arith) i;
    }
  where
    word : (k : ℕ) → k < row_long → get_or ws (a + k) 0 ≡ get_or (take row_long (drop a ws)) k 0
    word k l = sym (get_or-take row_long (drop a ws) k 0 l ∙ get_or-drop a ws k 0)
