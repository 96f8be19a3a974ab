-- Screens that know the same agree, in any run. Assumes nothing.
use Prim.Native.Nat.{ℕ, ◌≤◌, ◌<◌}
use native.Mathlib.Omega.{arith}
use mathlib.Core.Path.{◌≡◌, ◌∙◌, ap, sym}
use lib.Seq.{ext_get_or}
use Rattle.limits.specs.Limits.{fewest, most, prompt_count}
use Rattle.stamp.specs.Stamp.{Stamp, zeros}
use Rattle.tally.specs.Standing.{blank, standing}
use Rattle.ledger.specs.Log.{merge_all}
use Rattle.meaning.specs.Book.{Book, known, ready, standing_at}
use Rattle.meaning.specs.BookLaws.{prompts-long}
use Rattle.meaning.specs.ReadyKnown.{ready-known}
use Rattle.house.specs.Agree.{Agrees}
use Rattle.house.specs.Demand.{applied_of, applied_taps}
use Rattle.house.specs.House.{House, Run}
use Rattle.house.proofs.Demand.{value-merged, counted-distinct, fresh-counts}
use Rattle.house.proofs.Invariant.{Inv}
use Rattle.house.proofs.Runs.{run_inv}

-- up to order 7 the known stamp settles the ready stamp
ready-same : (b c : Book) → known b ≡ known c → ready b ≡ ready c
ready-same b c e = ready-known b ∙ e ∙ sym (ready-known c)

-- the prompts of a book are its standings, one by one
prompts-same :
    (n : ℕ) (h : House) → Inv n h → (i j : ℕ) → i < n → j < n
    → ((p : ℕ) → p < prompt_count → standing_at (h.book i) p ≡ standing_at (h.book j) p)
    → (h.book i).prompts ≡ (h.book j).prompts
unfolding standing_at
prompts-same n h v i j u w f =
    let long-i = prompts-long (h.book i) (v.screens i u).book-sound in
    let long-j = prompts-long (h.book j) (v.screens j w).book-sound in
    ext_get_or blank (h.book i).prompts (h.book j).prompts (long-i ∙ sym long-j)
    (λ p l. f p (omega (arith, long-i)))

pub agree :
    (n : ℕ) → fewest ≤ n → n ≤ most → (h : House) → Run n h → (i j : ℕ) → i < n → j < n
    → known (h.book i) ≡ known (h.book j) → Agrees (h.book i) (h.book j)
agree n lo hi h run i j u w e =
    record {
      counted = counted-distinct n h v i u ∙ ap (λ (y : Stamp). applied_taps y h.history) same
          ∙ sym (counted-distinct n h v j w);
      prompts = prompts-same n h v i j u w
          (λ p l. fresh-counts n h v i u p l ∙ ap (λ (y : Stamp). standing (applied_taps y h.history) p) same
          ∙ sym (fresh-counts n h v j w p l));
      value = value-merged n h v i u ∙ ap (λ (y : Stamp). merge_all (applied_of y h.history) zeros) same
          ∙ sym (value-merged n h v j w);
    }
  where
    v : Inv n h
    v = run_inv n lo hi run

    same : ready (h.book i) ≡ ready (h.book j)
    same = ready-same (h.book i) (h.book j) e
