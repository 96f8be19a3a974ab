-- Laws of the log's words: records and rows give each other back. Assumes nothing.
use Rattle.std.specs.Prelude.{ℕ, suc, ◌+◌, ◌-◌, ◌*◌, ◌≤◌, ◌≡◌, refl, Bool, List, [], ◌∷◌, ◌++◌, map, T}
use Rattle.std.specs.Prelude.{eqb, length}
use Rattle.std.specs.Prelude.{take, drop, get_or, replicate}
use Rattle.std.proofs.Common.{arith, sym, ap, ap₂, ◌∙◌, append_assoc, length-append, take-append-drop}
use Rattle.std.proofs.Common.{drop_of_length-le, take_at, drop-drop}
use Rattle.std.proofs.Math.Dec.{eqb→eq}
use Rattle.std.proofs.lemmas.List.{length-replicate, length-map, get_or_at}
use Rattle.limits.specs.Limits.{parts}
use Rattle.lists.specs.Scan.{rest}
use Rattle.lists.specs.Tests.{every}
use Rattle.lists.specs.TestLaws.{and_l, and_r}
use Rattle.lists.specs.Rows.{rows, flat}
use Rattle.lists.specs.RowLaws.{Wide, length-rows, length-flat, wide_rows, flat_rows, rows-flat}
use Rattle.ledger.specs.Record.{Record}
use Rattle.book_log.specs.Region.{row_long, record_at, row_of, records_at, log_words, body_place}

-- a record whose label has eight parts
unfoldable pub whole_label : Record → Bool
whole_label r = eqb (length r.label) parts

pub row_record_lem : (c : List ℕ) → length c ≡ row_long → row_of (record_at c) ≡ c
row_record_lem c h =
    let over : length c ≤ row_long = omega arith in
    let last : drop parts (drop 2 c) ≡ get_or c body_place 0 ∷ [] = drop-drop parts 2 c
    ∙ rest c body_place (omega arith)
    ∙ ap (λ (l : List ℕ). get_or c body_place 0 ∷ l) (drop_of_length-le c over) in
    ap (λ (l : List ℕ). get_or c 0 0 ∷ get_or c 1 0 ∷ l)
    (ap (λ (l : List ℕ). take parts (drop 2 c) ++ l) (sym last) ∙ take-append-drop parts (drop 2 c))
    ∙ ap (λ (l : List ℕ). get_or c 0 0 ∷ l) (sym (rest c 1 (omega arith)))
    ∙ sym (rest c 0 (omega arith))

module _ (r : Record) (h : T (whole_label r)) where
  eight : length r.label ≡ parts
  unfolding whole_label
  eight = eqb→eq (length r.label) parts h

  pub length-row : length (row_of r) ≡ row_long
  length-row = ap (λ (k : ℕ). suc (suc k)) (length-append r.label (r.body ∷ []) ∙ ap (λ (k : ℕ). k + 1) eight)

  pub record-row : record_at (row_of r) ≡ r
  record-row =
      let l : take parts (r.label ++ (r.body ∷ [])) ≡ r.label = take_at r.label (r.body ∷ []) parts eight in
      let b : get_or (r.label ++ (r.body ∷ [])) parts 0 ≡ r.body = get_or_at r.label r.body [] 0 parts eight in
      λ i. record { origin = r.origin; number = r.number; label = l i; body = b i }

-- some records as rows, and back
pub wide-records : (rs : List Record) → T (every whole_label rs) → Wide row_long (map row_of rs)
unfolding Wide
wide-records [] h = tt
wide-records (r ∷ rs) h = (
  length-row r (and_l (whole_label r) (every whole_label rs) h),
  wide-records rs (and_r (whole_label r) (every whole_label rs) h),
)

records-rows : (rs : List Record) → T (every whole_label rs) → map record_at (map row_of rs) ≡ rs
records-rows [] h = refl
records-rows (r ∷ rs) h =
    ap₂ ◌∷◌ (record-row r (and_l (whole_label r) (every whole_label rs) h))
    (records-rows rs (and_r (whole_label r) (every whole_label rs) h))

rows-records : (cs : List (List ℕ)) → Wide row_long cs → map row_of (map record_at cs) ≡ cs
unfolding Wide
rows-records [] h = refl
rows-records (c ∷ cs) h = ap₂ ◌∷◌ (row_record_lem c h.0) (rows-records cs h.1)

pub length-records : (n : ℕ) (l : List ℕ) → length (records_at n l) ≡ n
unfolding records_at
length-records n l = length-map (rows row_long n l) record_at ∙ length-rows row_long n l

-- what a region of records holds, also with more words behind it
pub records-words : (room : ℕ) (rs : List Record) (more : List ℕ) → T (every whole_label rs)
    → records_at (length rs) (log_words room rs ++ more) ≡ rs
unfolding records_at log_words
records-words room rs more h =
    ap (λ (k : ℕ). map record_at
    (rows row_long k ((flat (map row_of rs) ++ replicate ((room - length rs) * row_long) 0) ++ more)))
    (sym (length-map rs row_of))
    ∙ rw (
      append_assoc (flat (map row_of rs)),
      rows-flat row_long (map row_of rs) (replicate ((room - length rs) * row_long) 0 ++ more) (wide-records rs h),
    )
    (records-rows rs h)

pub length-log : (room : ℕ) (rs : List Record) → T (every whole_label rs) → length rs ≤ room
    → length (log_words room rs) ≡ room * row_long
unfolding log_words
length-log room rs h e =
    length-append (flat (map row_of rs)) (replicate ((room - length rs) * row_long) 0)
    ∙ rw (
      length-flat row_long (map row_of rs) (wide-records rs h),
      length-map rs row_of,
      length-replicate {A = ℕ} ((room - length rs) * row_long) 0,
    ) (omega arith)

-- a region whose rows past the n-th are zero is its records' region
pub words-records :
    (room n : ℕ) (l : List ℕ) → n ≤ room → length l ≡ room * row_long
    → drop (n * row_long) l ≡ replicate ((room - n) * row_long) 0 → log_words room (records_at n l) ≡ l
unfolding records_at log_words
words-records room n l h e z =
    let fit : n * row_long ≤ length l = omega arith in
    rw (
      rows-records (rows row_long n l) (wide_rows row_long n l fit),
      length-map (rows row_long n l) record_at,
      length-rows row_long n l,
      ← z,
    ) (flat_rows row_long n l fit)
