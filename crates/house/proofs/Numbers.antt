-- A screen's own part counts the records that it took, and the history is numbered by it. Assumes nothing.
use Prim.Native.Nat.{ℕ, ◌<◌, suc, ◌≤◌}
use native.Mathlib.Omega.{arith}
use mathlib.Core.Path.{◌≡◌, ap, subst, sym, ◌∙◌}
use mathlib.Core.Logic.{◌≢◌}
use mathlib.Core.List.{List, ◌∷◌, []}
use lib.Dec.{eqb, T, eqb→eq}
use lib.ListN.{length}
use Rattle.lists.specs.TestLaws.{bit, is_true, is_false, not-from, both, either, keep-length}
use Rattle.lists.proofs.ElementLaws.{eq→eqb}
use Rattle.lists.specs.Tests.{keep}
use Rattle.limits.specs.Limits.{fewest, most}
use Rattle.stamp.specs.Laws.{part_replaced, part-merge}
use Rattle.stamp.specs.Stamp.{part, Stamp}
use Rattle.ledger.specs.Record.{Record}
use Rattle.meaning.specs.Book.{known, Book}
use Rattle.meaning.specs.BookLaws.{fresh-known}
use Rattle.meaning.specs.Step.{new_record, own_rows, take_book, gossip_rows, new_ones, hear_book}
use Rattle.meaning.proofs.StepLaws.{new-number, new-origin, own-now, next_known, gossip-now}
use Rattle.house.specs.Demand.{right_numbers}
use Rattle.house.specs.House.{House, after_send, put, onward, Run, open_house, opened}
use Rattle.house.proofs.Invariant.{known_of, Inv, known_either}
use Rattle.house.proofs.Runs.{course, Course, stays, sent-one, took, take-onward, heard, gossip-onward, run_inv}

abbrev taken_by : ℕ → List Record → ℕ
taken_by k hs = length (keep (λ r. eqb r.origin k) hs)

pub record Numbered (n : ℕ) (h : House) : Type 0 where
  pub own : (k : ℕ) → k < n → part (known_of h k) k ≡ taken_by k h.history
  pub right : T (right_numbers h.history)

same_bit : (a c : ℕ) → a ≡ c → bit (eqb a c) ≡ 1
same_bit a c e = ap bit (is_true (eqb a c) (eq→eqb a c e))

other-bit : (a c : ℕ) → a ≢ c → bit (eqb a c) ≡ 0
other-bit a c d = ap bit (is_false (eqb a c) (not-from (eqb a c) (λ t. d (eqb→eq a c t))))

course-numbered : (n : ℕ) {h h' : House} → Inv n h → Numbered n h → Course n h h' → Numbered n h'
unfolding after_send take_book hear_book
course-numbered n v c stays = c
course-numbered n v c (sent-one i u) = record { own = c.own; right = c.right }
course-numbered n {h} v c (took i u x l d) = record { own = own; right = right }
  where
    b : Book
    b = h.book i

    mine : b.me ≡ i
    mine = (v.screens i u).mine

    rec : Record
    rec = new_record b x l

    own-before : part (known b) b.me ≡ taken_by b.me h.history
    own-before = subst (λ (k : ℕ). part (known b) k ≡ taken_by k h.history) (sym mine) (c.own i u)

    right : T (right_numbers (rec ∷ h.history))
    right =
        let before = own-before ∙ ap (λ (k : ℕ). taken_by k h.history) (sym (new-origin b x l)) in
        both (eqb rec.number (suc (taken_by rec.origin h.history))) (right_numbers h.history)
        (eq→eqb rec.number (suc (taken_by rec.origin h.history)) (new-number b x l ∙ ap suc before)) c.right

    own : (k : ℕ) → k < n → part (known (put h.book i (take_book b x l) k)) k ≡ taken_by k (rec ∷ h.history)
    own k y =
        either (known_either n h v i (own_rows b) (rec ∷ []) (rec ∷ h.history) (take-onward n h v i u x l d) k)
        (λ e. omega (
          arith,
          ap (λ (s : Stamp). part s k) (e.1 ∙ own-now b x l d),
          keep-length (λ r. eqb r.origin k) rec h.history,
          same_bit rec.origin k (new-origin b x l ∙ mine ∙ sym e.0),
          c.own k y,
          subst (λ (j : ℕ). part (next_known b) j ≡ suc (part (known b) j)) (mine ∙ sym e.0)
              (part_replaced (known b) b.me (suc (part (known b) b.me))),
          ap (λ (z : ℕ). part (known_of h z) k) e.0,
        ))
        (λ e. omega (
          arith,
          ap (λ (s : Stamp). part s k) e.1,
          keep-length (λ r. eqb r.origin k) rec h.history,
          other-bit rec.origin k (λ q. e.0 (sym q ∙ new-origin b x l ∙ mine)),
          c.own k y,
        ))
course-numbered n {h} v c (heard i u m x d) = record { own = own; right = c.right }
  where
    b : Book
    b = h.book i

    mine : b.me ≡ i
    mine = (v.screens i u).mine

    own : (k : ℕ) → k < n → part (known (put h.book i (hear_book b m) k)) k ≡ taken_by k h.history
    own k y =
        either (known_either n h v i (gossip_rows b m) (new_ones b m) h.history (gossip-onward n h v i u m x d) k)
        (λ e. omega (
          arith,
          ap (λ (s : Stamp). part s k) (e.1 ∙ gossip-now b m d),
          part-merge (known b) m.stamp k,
          c.own k y,
          subst (λ (j : ℕ). part m.stamp j ≤ part (known b) j) (mine ∙ sym e.0) d.own,
          ap (λ (z : ℕ). part (known_of h z) k) e.0,
        ))
        (λ e. omega (arith, ap (λ (s : Stamp). part s k) e.1, c.own k y))

pub run-numbered : (n : ℕ) → fewest ≤ n → n ≤ most → {h : House} → Run n h → Numbered n h
unfolding open_house
run-numbered n lo hi opened = record { own = λ k y. fresh-known k n k; right = tt }
run-numbered n lo hi (onward r s) = course-numbered n (run_inv n lo hi r) (run-numbered n lo hi r) (course n s)
