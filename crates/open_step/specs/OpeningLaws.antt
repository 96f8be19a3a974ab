-- Laws: open, line by line of its list of stops; its promise has one outcome. Assumes nothing.
use Rattle.std.specs.Prelude.{ℕ, ◌≡◌, refl, Bool, true, false, not, List, [], ◌∷◌, eqb, length, get_or, Ok, Err}
use Rattle.std.proofs.Common.{sym, ap, subst, ◌∙◌}
use Rattle.std.proofs.Math.Path.{ap₂}
use Rattle.std.proofs.Math.Option.{Option, none, some}
use Rattle.lists.specs.Tests.{first_of}
use Rattle.ledger.specs.Message.{in_range}
use Rattle.meaning.specs.Book.{fresh}
use Rattle.meaning.specs.Reply.{Reply, refusal, figures}
use Rattle.meaning.specs.Step.{open_stops}
use Rattle.lent.specs.Words.{book_long, words_of}
use Rattle.promise.specs.Lent.{Opened, open_or, open_on}
use Rattle.open_step.specs.Opening.{Opening, spoken_opening, Opens}
use Rattle.wire.specs.Refusal.{refusal_numbered, numbered_back}
use Rattle.wire.specs.declared.Refusal.TheVariants.{Unsound, WrongHouse}

module _ (ws : List ℕ) (i n : ℕ) where
  by_tests : (c d : Bool) → eqb (length ws) book_long ≡ c → in_range i n ≡ d
      → open_on ws i n ≡ open_or ws (words_of (fresh i n)) (first_of ((not c, refusal 11) ∷ (not d, refusal 2) ∷ []))
  unfolding open_on open_stops
  by_tests c d e f = ap₂ (λ (x y : Bool). open_or ws (words_of (fresh i n))
      (first_of ((not x, refusal 11) ∷ (not y, refusal 2) ∷ []))) e f

  -- of wrong length
  pub wrong-length : eqb (length ws) book_long ≡ false → Opens (open_on ws i n) (Err Unsound) ws
  wrong-length e = subst (λ (o : Opened). Opens o (Err Unsound) ws) (sym (by_tests false (in_range i n) e refl))
      (record { answers = refl; leaves = refl })

  module _ (e : eqb (length ws) book_long ≡ true) where
    -- N outside 2..8, or i not below N
    pub out_of_range : in_range i n ≡ false → Opens (open_on ws i n) (Err WrongHouse) ws
    out_of_range f = subst (λ (o : Opened). Opens o (Err WrongHouse) ws) (sym (by_tests true false e f))
        (record { answers = refl; leaves = refl })

    pub opens : in_range i n ≡ true → (new : List ℕ) → new ≡ words_of (fresh i n)
        → Opens (open_on ws i n) (Ok tt) new
    opens f new q = subst (λ (o : Opened). Opens o (Ok tt) new) (sym (by_tests true true e f))
        (record { answers = refl; leaves = q })

-- an opening is settled by what it says
abbrev opening_of : Option Reply → Opening
opening_of none = Ok tt
opening_of (some r) = Err (refusal_numbered (get_or (figures r) 1 0))

opening-back : (r : Opening) → opening_of (spoken_opening r) ≡ r
opening-back (Ok u) = refl
opening-back (Err r) = ap Err (numbered_back r)

-- two outcomes of an opening that both meet its promise are equal
pub one_opening : (o : Opened) (r r' : Opening) (w w' : List ℕ) → Opens o r w → Opens o r' w' → (r ≡ r') × (w ≡ w')
one_opening o r r' w w' p q =
    (sym (opening-back r) ∙ ap opening_of (p.answers ∙ sym q.answers) ∙ opening-back r', p.leaves ∙ sym q.leaves)
