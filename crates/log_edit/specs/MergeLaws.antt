-- Laws of the merge from the back, on records: the last of the new ones first. Assumes nothing.
--     gathered_none    with nothing new the log is as it was
--     gathered-last    of many, the last stands before those after it and behind all else
--     fresh-rest       the others are fresh to what is left
--     length-gathered  each new record makes the log one longer
use Rattle.std.specs.Prelude.{◌+◌, ◌≡◌, refl, true, false, List, [], ◌∷◌, ◌++◌, length}
use Rattle.std.proofs.Common.{sym, ◌∙◌}
use Rattle.std.proofs.Math.Path.{ap, subst}
use Rattle.std.proofs.Math.Bool.{not}
use mathlib.Core.List.Memᴰ
use Rattle.std.proofs.Math.Dec.{T}
use Rattle.lists.specs.Order.{key_before, insert_all}
use Rattle.lists.specs.TestLaws.{◌∈◌, either, here, keep_mem}
use Rattle.lists.proofs.Sorted.{before_trans, keep-rising}
use Rattle.lists.proofs.Neighbours.{rising-front}
use Rattle.ledger.specs.Record.{Record, place}
use Rattle.ledger.specs.Log.{gathered}
use Rattle.log_edit.specs.Merge.{after_of, before_of, Fresh}
use Rattle.log_edit.specs.OrderLaws.{parts-of, rising_across, insert-parts, insert_all-last, insert_all-front}
use Rattle.log_edit.specs.OrderLaws.{length-put}

-- a log whose front does not stand after x and whose back does
pub parted :
    (x : Record) (xs ys : List Record) → ((r : Record) → r ∈ xs → key_before (place x) (place r) ≡ false)
    → ((r : Record) → r ∈ ys → key_before (place x) (place r) ≡ true)
    → (before_of x (xs ++ ys) ≡ xs) × (after_of x (xs ++ ys) ≡ ys)
unfolding before_of after_of
parted x xs ys f g = parts-of (λ r. key_before (place x) (place r)) xs ys f g

pub gathered_none : (rs : List Record) → gathered [] rs ≡ rs
unfolding gathered
gathered_none rs = refl

module _ (new : List Record) (x : Record) (rs : List Record) (fresh : Fresh (new ++ (x ∷ [])) rs) where
  last_in : x ∈ new ++ (x ∷ [])
  last_in = Memᴰ.append_right new here

  pub gathered-last : gathered (new ++ (x ∷ [])) rs ≡ gathered new (before_of x rs) ++ (x ∷ after_of x rs)
  unfolding gathered before_of after_of
  gathered-last =
      insert_all-last place new x rs
      ∙ ap (insert_all place new) (insert-parts place x rs fresh.sorted (λ r m. fresh.apart x r last_in m))
      ∙ insert_all-front place new (before_of x rs) (x ∷ after_of x rs) behind
    where
      behind : (y : Record) → y ∈ new → (z : Record) → z ∈ x ∷ after_of x rs → T (key_before (place y) (place z))
      behind y m z n =
          let yx = rising_across place new (x ∷ []) fresh.order m here in
          either (Memᴰ.cases_cons n) (λ e. subst (λ (w : Record). T (key_before (place y) (place w))) (sym e) yx)
          (λ k. before_trans (place y) (place x) (place z) yx (keep_mem (λ r. key_before (place x) (place r)) rs k).1)

  pub fresh-rest : Fresh new (before_of x rs)
  unfolding before_of
  fresh-rest =
      record {
        order = rising-front place new (x ∷ []) fresh.order;
        sorted = keep-rising place (λ r. not (key_before (place x) (place r))) rs fresh.sorted;
        apart = λ y r m n. fresh.apart y r (Memᴰ.append_left (x ∷ []) m)
            (keep_mem (λ z. not (key_before (place x) (place z))) rs n).0;
      }

pub length-gathered : (new rs : List Record) → Fresh new rs → length (gathered new rs) ≡ length new + length rs
unfolding gathered
length-gathered new rs fresh = length-put place new rs fresh.order fresh.apart
