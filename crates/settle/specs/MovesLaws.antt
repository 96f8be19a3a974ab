-- Laws: record by record comes to what a step is defined to do. Assumes nothing.
use Rattle.std.specs.Prelude.{◌≡◌, Bool, ◌&&◌}
use Rattle.std.proofs.Math.Path.{refl, sym, ap}
use Rattle.std.proofs.Common.{◌∙◌}
use Rattle.std.proofs.Math.Bool.{true, false, not, cond}
use mathlib.Core.List.{List, [], ◌∷◌, flat_map}
use Rattle.stamp.specs.Stamp.{Stamp}
use Rattle.tally.specs.Body.{taps_in}
use Rattle.tally.proofs.CountingLaws.{counting_append}
use Rattle.tally.specs.declared.Standing.{Standing}
use Rattle.tally.specs.declared.Tap.{Tap}
use Rattle.ledger.specs.Log.{newly_applied, gathered, merge_all, remaining}
use Rattle.ledger.specs.Record.{Record, is_applied}
use Rattle.meaning.specs.Book.{Book, known, ready, row}
use Rattle.meaning.specs.Step.{now_ready, now_applied, now_noted, taps_of, settle}
use Rattle.lent.specs.With.{with_table, with_value, with_log, with_counted, with_prompts}
use Rattle.settle.specs.Moves.{count_taps, added, is_newly_applied, apply_one, apply_all, settled}

-- the book with its value stamp merged with those of some records, and their taps counted
abbrev pub absorbed : List Record → Book → Book
absorbed rs b = count_taps (taps_of rs) (with_value (merge_all rs b.value) b)

module _ (b : Book) where
  one_more : (r : Record) (rs : List Record) → added r (absorbed rs b) ≡ absorbed (r ∷ rs) b
  unfolding count_taps taps_of flat_map
  one_more r rs =
      let valued : Book = with_value (merge_all (r ∷ rs) b.value) b in
      ap (λ (st : List Tap × List Standing). with_prompts st.1 (with_counted st.0 valued))
      (sym (counting_append (taps_in r.body) (flat_map (λ x. taps_in x.body) rs) (b.counted, b.prompts)))

  one :
      (before now : Stamp) (r : Record) (rs : List Record)
      → apply_one before now r (absorbed rs b)
      ≡ absorbed (cond (is_applied now r && not (is_applied before r)) (r ∷ rs) rs) b
  unfolding apply_one is_newly_applied
  one before now r rs = go (is_applied now r && not (is_applied before r))
    where
      go : (c : Bool) → cond c (added r (absorbed rs b)) (absorbed rs b) ≡ absorbed (cond c (r ∷ rs) rs) b
      go true = one_more r rs
      go false = refl

  none : absorbed [] b ≡ b
  unfolding count_taps taps_of flat_map
  none = refl

  -- record by record, the last first, comes to all newly applied ones at once
  pub apply-all :
      (before now : Stamp) (rs : List Record) → apply_all before now rs b ≡ absorbed (newly_applied before now rs) b
  unfolding newly_applied
  apply-all before now [] = sym none
  apply-all before now (r ∷ rs) =
      ap (apply_one before now r) (apply-all before now rs) ∙ one before now r (newly_applied before now rs)

-- the step in place is the step as it is defined
pub settle_is :
    (b : Book) (rows : List Stamp) (new : List Record)
    → settle b rows new ≡ settled (ready b) (with_log (gathered new b.log) (with_table rows b))
unfolding settle settled known row ready now_ready now_applied now_noted count_taps
settle_is b rows new =
    let begun : Book = with_log (gathered new b.log) (with_table rows b) in
    ap (with_log (remaining (ready begun) rows (gathered new b.log)))
    (sym (apply-all begun (ready b) (ready begun) (gathered new b.log)))
