-- Laws, piece by piece: a book of the right shape is read back from its words, and words of the right shape are those
-- of the book that they hold. Assumes nothing.
--     words-book   words in shape are those of the book that they hold
--     book-words   a book of the right shape is the one that its words hold
--     words-shaped the words of such a book are in shape
use Rattle.std.specs.Prelude.{ℕ, suc, ◌-◌, ◌*◌, ◌≤◌, ◌≡◌, List, [], ◌∷◌, ◌++◌, map, eqb, length, get_or, drop}
use Rattle.std.specs.Prelude.{replicate}
use Rattle.std.proofs.Common.{arith, sym, ◌∙◌, append-nil, leb→le, le→leb, length-append, length-drop, drop_at}
use Rattle.std.proofs.Math.Path.{refl, ap, subst}
use Rattle.std.proofs.Math.Bool.{true}
use Rattle.std.proofs.Math.Dec.{T, eqb→eq}
use Rattle.std.proofs.lemmas.List.{length-replicate, length-map}
use Rattle.lists.specs.TestLaws.{all-at, both}
use Rattle.lists.proofs.ElementLaws.{eq→eqb, every-replicate}
use Rattle.lists.specs.Pieces.{sum_of, flat-long}
use Rattle.lists.specs.RowLaws.{Wide, length-rows, length-flat, flat_rows, rows-flat}
use Rattle.lists.specs.Rows.{rows, flat}
use Rattle.lists.specs.Tests.{all, every}
use Rattle.lists.specs.Zeros.{all-zeros}
use Rattle.limits.specs.Limits.{parts, most, log_room, book_room}
use Rattle.stamp.specs.Stamp.{Stamp}
use Rattle.tally.specs.Tap.{word_of}
use Rattle.tally.specs.declared.Tap.{Tap}
use Rattle.ledger.specs.Record.{Record}
use Rattle.book_log.specs.Region.{row_long, row_of, records_at, log_words}
use Rattle.book_log.specs.RegionLaws.{whole_label, wide-records, length-records, records-words, length-log}
use Rattle.book_log.specs.RegionLaws.{words-records}
use Rattle.taps.specs.Region.{taps_at, tap_words}
use Rattle.taps.specs.RegionLaws.{length-taps, length-words, taps-words, words-taps}
use Rattle.prompts.specs.Region.{standings_at, standing_words}
use Rattle.prompts.specs.RegionLaws.{standings-words, words_standings, length-words as standings-long}
use Rattle.meaning.specs.Book.{Book}
use Rattle.lent.specs.Lay.{at_place, Laid, lengths, piece-lay, lay-pieces, piece-long}
use Rattle.lent.specs.Shape.{Shape}
use Rattle.lent.specs.Words.{Name, Screen, Screens, Logged, Taps, Table, Value, Log, Counted, Prompts, piece_of}
use Rattle.lent.specs.Words.{order, size, rank, book_long, piece, number_in, lay, words_at, fill, table_words}
use Rattle.lent.specs.Words.{zero_from, words_of, book_of, shape_rules, in_shape}

-- the table's words
length-table : (rs : List Stamp) → Wide parts rs → length rs ≤ most → length (table_words rs) ≡ most * parts
unfolding table_words
length-table rs w h =
    length-append (flat rs) (replicate ((most - length rs) * parts) 0)
    ∙ rw (length-flat parts rs w, length-replicate {A = ℕ} ((most - length rs) * parts) 0) (omega arith)

words-table : (n : ℕ) (l : List ℕ) → n ≤ most → length l ≡ most * parts → T (zero_from (n * parts) l)
    → table_words (rows parts n l) ≡ l
unfolding table_words
words-table n l h e z =
    let fit : n * parts ≤ length l = omega arith in
    let long : (most - n) * parts ≡ length (drop (n * parts) l) = simp length-drop (omega arith) in
    rw (length-rows parts n l, long, ← all-zeros (drop (n * parts) l) z) (flat_rows parts n l fit)

table-back : (rs : List Stamp) (n : ℕ) → Wide parts rs → length rs ≡ n → rows parts n (table_words rs) ≡ rs
unfolding table_words
table-back rs n w e = rw (← e) (rows-flat parts rs (replicate ((most - length rs) * parts) 0) w)

pub records-back : (room : ℕ) (rs : List Record) → T (every whole_label rs)
    → records_at (length rs) (log_words room rs) ≡ rs
records-back room rs h = ap (records_at (length rs)) (sym (append-nil (log_words room rs))) ∙ records-words room rs [] h

-- a list that is zero from a place on, and of this length past it
zeros-past : (l : List ℕ) (n k : ℕ) → T (zero_from n l) → length (drop n l) ≡ k → drop n l ≡ replicate k 0
zeros-past l n k z e = all-zeros (drop n l) z ∙ ap (λ (j : ℕ). replicate j 0) e

words-log : (n : ℕ) (l : List ℕ) → n ≤ log_room → length l ≡ log_room * row_long → T (zero_from (n * row_long) l)
    → log_words log_room (records_at n l) ≡ l
words-log n l h e z =
    let long : length (drop (n * row_long) l) ≡ (log_room - n) * row_long = simp length-drop (omega arith) in
    words-records log_room n l h e (zeros-past l (n * row_long) ((log_room - n) * row_long) z long)

-- a piece is zero behind what it holds
zeros-behind : (l : List ℕ) (n k : ℕ) → length l ≡ n → T (zero_from n (l ++ replicate k 0))
zeros-behind l n k e =
    subst (λ (r : List ℕ). T (every (λ x. eqb x 0) r)) (sym (drop_at l (replicate k 0) n e))
    (every-replicate (λ x. eqb x 0) k 0 tt)

table-zeros : (rs : List Stamp) (n : ℕ) → Wide parts rs → length rs ≡ n → T (zero_from (n * parts) (table_words rs))
unfolding table_words
table-zeros rs n w e =
    zeros-behind (flat rs) (n * parts) ((most - length rs) * parts)
    (length-flat parts rs w ∙ ap (λ (k : ℕ). k * parts) e)

log-zeros : (room : ℕ) (rs : List Record) → T (every whole_label rs)
    → T (zero_from (length rs * row_long) (log_words room rs))
unfolding log_words
log-zeros room rs h =
    zeros-behind (flat (map row_of rs)) (length rs * row_long) ((room - length rs) * row_long)
    (length-flat row_long (map row_of rs) (wide-records rs h) ∙ ap (λ (k : ℕ). k * row_long) (length-map rs row_of))

tap-zeros : (room : ℕ) (ts : List Tap) → T (zero_from (length ts) (tap_words room ts))
unfolding tap_words
tap-zeros room ts = zeros-behind (map word_of ts) (length ts) (room - length ts) (length-map ts word_of)

one_word : (l : List ℕ) → length l ≡ 1 → get_or l 0 0 ∷ [] ≡ l
one_word [] e = absurd (omega arith)
one_word (x ∷ []) e = refl
one_word (x ∷ y ∷ l) e = absurd (omega arith)

-- words in shape: the one length, and what each piece keeps
module _ (ws : List ℕ) (h : T (in_shape ws)) where
  pub shape-long : length ws ≡ book_long
  unfolding in_shape
  shape-long = eqb→eq (length ws) book_long (all-at (shape_rules ws) 0 h)

  rule-at : (n : Name) → T ((piece_of n).rule (λ m. piece m ws))
  unfolding in_shape
  rule-at n = subst T (at_place (λ k. (piece_of k).rule (λ m. piece m ws)) true n)
      (all-at (shape_rules ws) (suc (rank n)) h)

  pub screens-few : number_in Screens ws ≤ most
  screens-few = leb→le (number_in Screens ws) most (rule-at Screens)

  pub log-few : number_in Logged ws ≤ log_room
  log-few = leb→le (number_in Logged ws) log_room (rule-at Logged)

  pub counted-few : number_in Taps ws ≤ book_room
  counted-few = leb→le (number_in Taps ws) book_room (rule-at Taps)

  part-long : (n : Name) → length (piece n ws) ≡ size n
  part-long n = piece-long ws shape-long n

  taps_in_lem : number_in Taps ws ≤ length (piece Counted ws)
  unfolding size
  taps_in_lem = omega (arith, counted-few, part-long Counted)

  words_back : (n : Name) → words_at (book_of ws) n ≡ piece n ws
  unfolding book_of size
  words_back Screen = one_word (piece Screen ws) (part-long Screen)
  words_back Screens = one_word (piece Screens ws) (part-long Screens)
  words_back Logged =
      ap (λ (k : ℕ). k ∷ []) (length-records (number_in Logged ws) (piece Log ws))
      ∙ one_word (piece Logged ws) (part-long Logged)
  words_back Taps =
      ap (λ (k : ℕ). k ∷ []) (length-taps (number_in Taps ws) (piece Counted ws) taps_in_lem)
      ∙ one_word (piece Taps ws) (part-long Taps)
  words_back Table = words-table (number_in Screens ws) (piece Table ws) screens-few (part-long Table) (rule-at Table)
  words_back Value = refl
  words_back Log = words-log (number_in Logged ws) (piece Log ws) log-few (part-long Log) (rule-at Log)
  words_back Counted = words-taps book_room (number_in Taps ws) (piece Counted ws) taps_in_lem (part-long Counted)
      (rule-at Counted)
  words_back Prompts = words_standings (piece Prompts ws) (part-long Prompts)

  -- words in shape are those of the book that they hold
  pub words-book : words_of (book_of ws) ≡ ws
  unfolding words_of
  words-book = (λ i. lay (λ n. words_back n i)) ∙ lay-pieces ws shape-long

-- a book of the right shape
module _ (b : Book) (s : Shape b) where
  pub words-laid : Laid (words_at b)
  unfolding size
  words-laid Screen = refl
  words-laid Screens = refl
  words-laid Logged = refl
  words-laid Taps = refl
  words-laid Table = length-table b.table s.rows-wide (omega (arith, s.rows_long, s.screens-few))
  words-laid Value = s.value-long
  words-laid Log = length-log log_room b.log s.log-whole s.log-few
  words-laid Counted = length-words book_room b.counted s.counted-few
  words-laid Prompts = standings-long b.prompts s.prompts-long

  pub piece_back : (n : Name) → piece n (words_of b) ≡ words_at b n
  unfolding words_of
  piece_back n = piece-lay (words_at b) words-laid n

  filled : fill order (words_at b) ≡ b
  filled =
      let t : rows parts b.screens (table_words b.table)
      ≡ b.table = table-back b.table b.screens s.rows-wide s.rows_long in
      let l : records_at (length b.log) (log_words log_room b.log)
      ≡ b.log = records-back log_room b.log s.log-whole in
      let c : taps_at (length b.counted) (tap_words book_room b.counted)
      ≡ b.counted = taps-words book_room b.counted s.counted_fit in
      let p : standings_at (standing_words b.prompts) ≡ b.prompts = standings-words b.prompts s.prompts-long in
      λ i. record {
        me = b.me;
        screens = b.screens;
        table = t i;
        value = b.value;
        log = l i;
        counted = c i;
        prompts = p i;
      }

  -- it is the book that its words hold
  pub book-words : book_of (words_of b) ≡ b
  unfolding book_of
  book-words = (λ i. fill order (λ n. piece_back n i)) ∙ filled

  words-whole : length (words_of b) ≡ book_long
  unfolding words_of book_long
  words-whole = flat-long (map (words_at b) order) ∙ ap sum_of (lengths (words_at b) words-laid order)

  rules-kept : (n : Name) → T ((piece_of n).rule (words_at b))
  rules-kept Screen = tt
  rules-kept Screens = le→leb b.screens most s.screens-few
  rules-kept Logged = le→leb (length b.log) log_room s.log-few
  rules-kept Taps = le→leb (length b.counted) book_room s.counted-few
  rules-kept Table = table-zeros b.table b.screens s.rows-wide s.rows_long
  rules-kept Value = tt
  rules-kept Log = log-zeros log_room b.log s.log-whole
  rules-kept Counted = tap-zeros book_room b.counted
  rules-kept Prompts = tt

  all-kept : (ns : List Name) → T (all (map (λ n. (piece_of n).rule (λ m. piece m (words_of b))) ns))
  all-kept [] = tt
  all-kept (n ∷ ns) =
      both ((piece_of n).rule (λ m. piece m (words_of b)))
      (all (map (λ k. (piece_of k).rule (λ m. piece m (words_of b))) ns))
      (subst T (λ i. (piece_of n).rule (λ m. sym (piece_back m) i)) (rules-kept n)) (all-kept ns)

  pub words-shaped : T (in_shape (words_of b))
  unfolding in_shape
  words-shaped =
      both (eqb (length (words_of b)) book_long) (all (map (λ n. (piece_of n).rule (λ m. piece m (words_of b))) order))
      (eq→eqb (length (words_of b)) book_long words-whole) (all-kept order)
