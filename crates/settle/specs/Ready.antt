-- What a book needs for its log's newly applied records to be applied in place, record by record, the last first.
-- Assumes nothing.
use Prim.Native.Nat.{ℕ, zero, suc, ◌+◌, ◌≤◌, ◌<◌}
use Rattle.std.proofs.Common.{le_refl, add-one, subst, ◌∙◌, drop_of_length-le, length-drop, drop-cons}
use native.Mathlib.Omega.{arith}
use Rattle.std.specs.Prelude.{◌≡◌, Bool, true, false, ◌&&◌, cond, T, length}
use Rattle.std.proofs.Math.Path.{refl, sym, ap}
use Rattle.std.proofs.Math.Bool.{not}
use mathlib.Core.List.{List, [], ◌∷◌, ◌++◌, flat_map}
use Rattle.std.proofs.Math.ListN.{get_or, drop}
use Rattle.lists.specs.TestLaws.{◌∈◌, get_or_in, here, there, either, bit, keep-length, keep_le}
use Rattle.lists.proofs.ElementLaws.{get_or-all}
use Rattle.lists.specs.Order.{key_before, rising, insert, insert_all}
use Rattle.limits.specs.LimitLaws.{log_small}
use Rattle.limits.specs.Limits.{parts, most, book_room, log_room, count_limit}
use Rattle.stamp.specs.Laws.{length-merge, length-replace}
use Rattle.stamp.specs.Stamp.{Stamp}
use Rattle.tally.specs.Body.{taps_in, body_fits}
use Rattle.tally.proofs.BodyLaws.{taps-body, taps_tap}
use Rattle.tally.proofs.CountingLaws.{counting-taps, counting-long, counting-few}
use Rattle.tally.specs.Standing.{CountsFit, blank, counting, count_all}
use Rattle.tally.proofs.StandingLaws.{count-put}
use Rattle.tally.specs.Tap.{FitsBits, fields, tap_of}
use Rattle.tally.proofs.WordLaws.{fits_bits}
use Rattle.tally.specs.declared.Standing.{Standing}
use Rattle.tally.specs.declared.Tap.{Tap}
use Rattle.ledger.specs.Log.{newly_applied, merge_all}
use Rattle.ledger.proofs.LogLaws.{newly_mem}
use Rattle.ledger.specs.Record.{Record, stamp_of, record_fits, is_applied}
use Rattle.ledger.proofs.RecordLaws.{Obeys, obeys}
use Rattle.taps.specs.RegionLaws.{AllFit}
use Rattle.meaning.specs.Book.{Book, standing_at}
use Rattle.meaning.proofs.SettleLaws.{taps_mem, taps-few}
use Rattle.meaning.specs.Step.{taps_of}
use Rattle.lent.specs.Rows.{no_record}
use Rattle.lent.specs.Shape.{Shape, value-fits, counted-fits, prompts_fit}
use Rattle.lent.specs.With.{with_value, with_counted}
use Rattle.settle.specs.Moves.{count_taps, is_newly_applied, apply_one, apply_all}
use Rattle.settle.specs.MovesLaws.{absorbed, apply-all}

-- the tap of a word can be counted: the counted taps are in order, its prompt's counts are not near their limit, and
-- there is room for one more
pub record Countable (w : ℕ) (b : Book) : Type 0 where
  pub order : T (rising fields b.counted)
  pub counts : CountsFit (standing_at b (tap_of w).prompt)
  pub room : length (insert fields (tap_of w) b.counted) ≤ book_room

-- a record can be applied, if it is newly applied
pub record Applicable (before now : Stamp) (r : Record) (b : Book) : Type 0 where
  pub origin : r.origin < parts
  pub countable : T (is_newly_applied before now r) → Countable r.body b

-- every newly applied record of the log can be applied
pub record Appliable (before now : Stamp) (b : Book) : Type 0 where
  pub shape : Shape b
  pub order : T (rising fields b.counted)
  pub few : (s : Standing) → s ∈ b.prompts → s.accepts + s.declines + log_room < count_limit
  pub obey : (r : Record) → r ∈ b.log → T (record_fits body_fits b.screens r)
  pub room : length (count_all (taps_of (newly_applied before now b.log)) b.counted) ≤ book_room

-- the book with the newly applied records from the i-th of its log on applied
unfoldable pub applied_from : Stamp → Stamp → Book → ℕ → Book
applied_from before now b i = absorbed (newly_applied before now (drop i b.log)) b

-- counting more taps makes no fewer
insert-long : (t : Tap) (ts : List Tap) → length ts ≤ length (insert fields t ts)
insert-long t [] = omega arith
insert-long t (u ∷ us) = go (key_before (fields t) (fields u)) (key_before (fields u) (fields t)) (insert-long t us)
  where
    go :
        (c d : Bool) → length us ≤ length (insert fields t us)
        → suc (length us) ≤ length (cond c (t ∷ u ∷ us) (cond d (u ∷ insert fields t us) (u ∷ us)))
    go true d h = omega arith
    go false true h = omega arith
    go false false h = omega arith

more-counted : (xs ys cs : List Tap) → length (count_all ys cs) ≤ length (count_all (xs ++ ys) cs)
unfolding count_all
more-counted [] ys cs = omega arith
more-counted (x ∷ xs) ys cs =
    omega (arith, more-counted xs ys cs, insert-long x (insert_all fields (xs ++ ys) cs))

module _ (before now : Stamp) (cs : List Tap) where
  counted_of : List Record → ℕ
  counted_of rs = length (count_all (taps_of (newly_applied before now rs)) cs)

  one-longer : (r : Record) (rs : List Record) → counted_of rs ≤ counted_of (r ∷ rs)
  unfolding counted_of newly_applied taps_of flat_map
  one-longer r rs = go (is_applied now r && not (is_applied before r))
    where
      newly : List Record
      newly = newly_applied before now rs

      go : (c : Bool) → counted_of rs ≤ length (count_all (taps_of (cond c (r ∷ newly) newly)) cs)
      go true = more-counted (taps_in r.body) (taps_of newly) cs
      go false = omega arith

  pub longer :
      (rs : List Record) (i : ℕ)
      → length (count_all (taps_of (newly_applied before now (drop i rs))) cs)
      ≤ length (count_all (taps_of (newly_applied before now rs)) cs)
  unfolding counted_of
  longer rs zero = omega arith
  longer [] (suc i) = omega arith
  longer (r ∷ rs) (suc i) = omega (arith, longer rs i, one-longer r rs)

  -- a newly applied record's tap is one more
  pub one-counted :
      (r : Record) (rs : List Record) → T (is_newly_applied before now r)
      → count_all (taps_of (newly_applied before now (r ∷ rs))) cs
      ≡ insert fields (tap_of r.body) (count_all (taps_of (newly_applied before now rs)) cs)
  unfolding is_newly_applied newly_applied taps_of count_all flat_map
  one-counted r rs t = go (is_applied now r && not (is_applied before r)) t
    where
      newly : List Record
      newly = newly_applied before now rs

      go :
          (c : Bool) → T c
          → count_all (taps_of (cond c (r ∷ newly) newly)) cs
          ≡ insert fields (tap_of r.body) (count_all (taps_of newly) cs)
      go true t = ap (λ (ts : List Tap). count_all (ts ++ taps_of newly) cs) (taps_tap r.body)
      go false t = absurd t

-- an element of a list's rest is one of the list
in-drop : {A : Type 0} (xs : List A) (i : ℕ) {x : A} → x ∈ drop i xs → x ∈ xs
in-drop xs zero m = m
in-drop [] (suc i) m = m
in-drop (y ∷ ys) (suc i) m = there (in-drop ys i m)

most-few : most ≤ parts
unfolding most
most-few = omega arith

newly-few : (before now : Stamp) (rs : List Record) → length (newly_applied before now rs) ≤ length rs
unfolding newly_applied
newly-few before now rs = keep_le (λ r. is_applied now r && not (is_applied before r)) rs

module _ (before now : Stamp) (b : Book) (y : Appliable before now b) where
  rules : (r : Record) → r ∈ b.log → Obeys body_fits b.screens r
  rules r m = obeys body_fits b.screens r (y.obey r m)

  low_origin : (r : Record) → r ∈ b.log → r.origin < parts
  low_origin r m = omega (arith, (rules r m).origin_lt, y.shape.screens-few, most-few)

  stamp-long : (r : Record) → r ∈ b.log → length (stamp_of r) ≡ parts
  unfolding stamp_of
  stamp-long r m =
      let long = (rules r m).label-fits.long in
      length-replace r.label r.origin r.number (omega (arith, low_origin r m, long)) ∙ long

  value-long : (rs : List Record) → ((r : Record) → r ∈ rs → r ∈ b.log) → length (merge_all rs b.value) ≡ parts
  value-long [] f = y.shape.value-long
  value-long (r ∷ rs) f =
      let rec = value-long rs (λ x m. f x (there m)) in
      length-merge (stamp_of r) (merge_all rs b.value) (stamp-long r (f r here) ∙ sym rec) ∙ rec

  newly_in : (i : ℕ) (r : Record) → r ∈ newly_applied before now (drop i b.log) → r ∈ b.log
  newly_in i r m = in-drop b.log i (newly_mem before now (drop i b.log) r m).0

  -- the taps of what is newly applied from the i-th record on, and what counting them leaves
  abbrev taps_from : ℕ → List Tap
  taps_from i = taps_of (newly_applied before now (drop i b.log))

  from-counted : (i : ℕ) → (applied_from before now b i).counted ≡ count_all (taps_from i) b.counted
  unfolding applied_from count_taps
  from-counted i = counting-taps (taps_from i) b.counted b.prompts y.order

  from-order : (i : ℕ) → T (rising fields (applied_from before now b i).counted)
  from-order i =
      subst (λ (ts : List Tap). T (rising fields ts)) (sym (from-counted i))
      ((count-put (taps_from i) b.counted).order y.order)

  from_fit : (i : ℕ) → AllFit (applied_from before now b i).counted
  from_fit i t m =
      either ((count-put (taps_from i) b.counted).from t (subst (λ (ts : List Tap). t ∈ ts) (from-counted i) m))
      (λ n. body (taps_mem (newly_applied before now (drop i b.log)) t n)) (λ n. y.shape.counted_fit t n)
    where
      body : ((r : Record) × (r ∈ newly_applied before now (drop i b.log)) × (t ∈ taps_in r.body)) → FitsBits t
      body w = fits_bits t (taps-body w.0.body (rules w.0 (newly_in i w.0 w.1)).body-fits t w.2)

  from-room : (i : ℕ) → length (applied_from before now b i).counted ≤ book_room
  from-room i = omega (arith, ap length (from-counted i), longer before now b.counted b.log i, y.room)

  -- no count is near its limit: those of the book are few, and so are the log's taps
  few-taps : (i : ℕ) → length (taps_from i) ≤ log_room
  few-taps i =
      let rest : length (drop i b.log) ≤ length b.log = rw (length-drop i b.log) (omega arith) in
      let newly = newly-few before now (drop i b.log) in
      omega (arith, taps-few (newly_applied before now (drop i b.log)), newly, rest, y.shape.log-few)

  from-few : (i : ℕ) (s : Standing) → s ∈ (applied_from before now b i).prompts → s.accepts + s.declines < count_limit
  unfolding applied_from count_taps
  from-few i s m =
      let begun : (x : Standing) → x ∈ b.prompts → x.accepts + x.declines + suc log_room ≤ count_limit =
      λ x n. omega (arith, y.few x n) in
      let few = counting-few (taps_from i) b.counted b.prompts (suc log_room) count_limit begun log-fits s m in
      omega (arith, few, few-taps i)
    where
      log-fits : suc log_room ≤ count_limit
      log-fits = omega (arith, log_small)

  from-counts : (i p : ℕ) → CountsFit (standing_at (applied_from before now b i) p)
  unfolding standing_at
  from-counts i p =
      get_or-all CountsFit (applied_from before now b i).prompts blank
      (λ s m. record { accepts = omega (arith, from-few i s m); declines = omega (arith, from-few i s m) })
      (record { accepts = omega (arith, log_small); declines = omega (arith, log_small) }) p

  pub from-shape : (i : ℕ) → Shape (applied_from before now b i)
  unfolding applied_from count_taps
  from-shape i =
      let rs = newly_applied before now (drop i b.log) in
      let st = counting (taps_of rs) (b.counted, b.prompts) in
      let valued = value-fits b y.shape (merge_all rs b.value) (value-long rs (newly_in i)) in
      let counted = counted-fits (with_value (merge_all rs b.value) b) valued st.0 (from-room i) (from_fit i) in
      prompts_fit (with_counted st.0 (with_value (merge_all rs b.value) b)) counted st.1
      (counting-long (taps_of rs) b.counted b.prompts ∙ y.shape.prompts-long)

  pub from-log : (i : ℕ) → (applied_from before now b i).log ≡ b.log
  unfolding applied_from count_taps
  from-log i = refl

  pub from-me : (i : ℕ) → ((applied_from before now b i).me ≡ b.me)
      × ((applied_from before now b i).screens ≡ b.screens)
  unfolding applied_from count_taps
  from-me i = (refl, refl)

  -- with none of the log applied it is the book, with all of it the book put in order but for the drop
  pub from-none : applied_from before now b (length b.log) ≡ b
  unfolding applied_from
  from-none =
      ap (λ (rs : List Record). absorbed (newly_applied before now rs) b)
      (drop_of_length-le b.log (le_refl (length b.log)))
      ∙ sym (apply-all b before now [])

  pub from_all : applied_from before now b 0 ≡ apply_all before now b.log b
  unfolding applied_from
  from_all = sym (apply-all b before now b.log)

  module _ (i : ℕ) (h : i < length b.log) where
    next : drop i b.log ≡ get_or b.log i no_record ∷ drop (i + 1) b.log
    next = rw (add-one, drop-cons b.log i no_record h)

    pub from_next :
        apply_one before now (get_or b.log i no_record) (applied_from before now b (i + 1))
        ≡ applied_from before now b i
    unfolding applied_from
    from_next =
        ap (apply_one before now (get_or b.log i no_record)) (sym (apply-all b before now (drop (i + 1) b.log)))
        ∙ apply-all b before now (get_or b.log i no_record ∷ drop (i + 1) b.log)
        ∙ ap (λ (rs : List Record). absorbed (newly_applied before now rs) b) (sym next)

    pub newly-next :
        length (newly_applied before now (drop i b.log))
        ≡ bit (is_newly_applied before now (get_or b.log i no_record))
        + length (newly_applied before now (drop (i + 1) b.log))
    unfolding newly_applied is_newly_applied
    newly-next =
        let first = get_or b.log i no_record in
        rw next (keep-length (λ r. is_applied now r && not (is_applied before r)) first (drop (i + 1) b.log))

    room_next :
        T (is_newly_applied before now (get_or b.log i no_record))
        → length (insert fields (tap_of (get_or b.log i no_record).body) (applied_from before now b (i + 1)).counted)
        ≤ book_room
    room_next t =
        let more = one-counted before now b.counted (get_or b.log i no_record) (drop (i + 1) b.log) t in
        rw (from-counted (i + 1), ← more, ← next)
        (omega (arith, longer before now b.counted b.log i, y.room))

    pub from_applicable : Applicable before now (get_or b.log i no_record) (applied_from before now b (i + 1))
    from_applicable =
        record {
          origin = low_origin (get_or b.log i no_record) (get_or_in b.log i no_record h);
          countable = λ t.
              record { order = from-order (i + 1); counts = from-counts (i + 1) _; room = room_next t };
        }
