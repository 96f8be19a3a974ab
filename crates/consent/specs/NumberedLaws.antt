-- Laws: an opening as a number says what the opening says, and its promise has one outcome. Assumes nothing.
use Rattle.std.specs.Prelude.{ℕ, ◌≡◌, Bool, true, false, not, ◌&&◌, cond, T, eqb, length, get_or, Ok, Err}
use Rattle.std.proofs.Common.{arith, sym, ap, subst, ◌∙◌, eqb-true}
use Rattle.std.proofs.Math.Path.{refl}
use mathlib.Core.List.{List}
use Rattle.std.proofs.Math.Option.{Option, none, some}
use Rattle.std.proofs.lemmas.Bool.{ne_eqb}
use Rattle.lists.specs.TestLaws.{is_true}
use Rattle.lists.proofs.ElementLaws.{first_passes}
use Rattle.lists.specs.Tests.{first_of}
use Rattle.meaning.specs.Book.{fresh}
use Rattle.limits.specs.KindNumbers.{refusal_number}
use Rattle.meaning.specs.Reply.{Reply, refusal, figures, is_of}
use Rattle.meaning.specs.Step.{open_stops}
use Rattle.lent.specs.Words.{book_long, words_of}
use Rattle.promise.specs.Lent.{Opened, open_or, open_on}
use Rattle.wire.specs.Refusal.{table_number, number_pos}
use Rattle.wire.specs.declared.Refusal.{Refusal}
use Rattle.open_step.specs.Opening.{Opening, Opens, spoken_opening}
use Rattle.consent.specs.Numbered.{refused_as, OpensAs}

-- a refusal with a number of its own
abbrev pub numbered : Reply → Bool
numbered r = not (is_of refusal_number r && eqb (get_or (figures r) 1 0) 0)

-- what refuses an opening has a number of its own
module _ (ws : List ℕ) (i n : ℕ) where
  pub open-numbered : (r : Reply) → (open_on ws i n).refused ≡ some r → T (numbered r)
  unfolding open_on open_stops
  open-numbered r = go (first_of stops) refl
    where
      stops : List (Bool × Reply)
      stops = open_stops (eqb (length ws) book_long) i n

      go : (o : Option Reply) → first_of stops ≡ o → (open_or ws (words_of (fresh i n)) o).refused ≡ some r
          → T (numbered r)
      go none e f = let z : ◌≡◌ {A = ℕ} 0 1 = cc in absurd (omega arith)
      go (some q) e f = let z : q ≡ r = cc in
          subst (λ (x : Reply). T (numbered x)) z (first_passes numbered stops tt q e)

-- no refusal is numbered zero
refused-some : (r : Refusal) → refused_as (table_number r) ≡ some (refusal (table_number r))
refused-some r = ap (λ (c : Bool). cond {A = Option Reply} c none (some (refusal (table_number r))))
    (ne_eqb (table_number r) 0 (λ e. omega (arith, e, number_pos r)))

module _ (ws : List ℕ) (i n : ℕ) (r : Opening) (words : List ℕ) (o : Opens (open_on ws i n) r words) where
  pub opened_as : r ≡ Ok tt → OpensAs (open_on ws i n) 0 words
  opened_as e = record { answers = sym (ap spoken_opening e) ∙ o.answers; leaves = o.leaves }

  pub refused_with : (k : Refusal) → r ≡ Err k → OpensAs (open_on ws i n) (table_number k) words
  refused_with k e = record { answers = refused-some k ∙ sym (ap spoken_opening e) ∙ o.answers; leaves = o.leaves }

-- an opening's number is settled by what it says
abbrev number_in : Option Reply → ℕ
number_in none = 0
number_in (some r) = get_or (figures r) 1 0

number-back : (k : ℕ) → number_in (refused_as k) ≡ k
number-back k = go (eqb k 0) refl
  where
    go : (c : Bool) → eqb k 0 ≡ c → number_in (cond c none (some (refusal k))) ≡ k
    go true e = sym (eqb-true k 0 e)
    go false e = refl

-- two outcomes of an opening that both meet its promise are equal
pub one_number : (o : Opened) (k k' : ℕ) (w w' : List ℕ) → OpensAs o k w → OpensAs o k' w' → (k ≡ k') × (w ≡ w')
one_number o k k' w w' p q =
    (sym (number-back k) ∙ ap number_in (p.answers ∙ sym q.answers) ∙ number-back k', p.leaves ∙ sym q.leaves)
