-- Laws of what the small program says. Assumes nothing.
--     said-end       nothing is said to nothing
--     said-broken    09 01 is said to what starts with no whole message
--     said-turn      a whole message has its reply, and then what is left has its own
--     begin-broken, begin-refused, begin-opened   the same of a whole input, by its kind 11
use Rattle.std.specs.Prelude.{ℕ, zero, suc, ◌≤◌, ◌<◌, ◌≡◌, false, length, take}
use Rattle.std.proofs.Common.{arith, ap, length-drop}
use Rattle.std.proofs.Math.Path.{refl}
use Rattle.std.proofs.Math.Bool.{true}
use mathlib.Core.List.{List, [], ◌∷◌, ◌++◌}
use Rattle.std.proofs.Math.Option.{none, some}
use Rattle.std.proofs.Math.ListN.{drop}
use Rattle.meaning.specs.Reply.{Reply}
use Rattle.frames.specs.Next.{next_of}
use Rattle.frames.specs.NextLaws.{next-whole}
use Rattle.frames.specs.declared.Frame.{Frame}
use Rattle.frames.specs.declared.Frame.TheVariants.{More, Whole, Stop}
use Rattle.answer.specs.Speech.{bytes_for}
use Rattle.answer.specs.Answer.{done_on, open_from}
use Rattle.program.specs.Said.{on_whole, bad, said_to, said_from, said_by}

-- what is left after a message is shorter
fewer : (x : ℕ) (left : List ℕ) (m n : ℕ) → next_of (x ∷ left) true ≡ Whole n → length (x ∷ left) ≤ suc m
    → length (drop n (x ∷ left)) ≤ m
fewer x left m n e l = omega (arith, (next-whole (x ∷ left) true n e).0, length-drop n (x ∷ left))

-- as many turns as bytes are enough
more_turns : (f g : ℕ) (ws left : List ℕ) → length left ≤ f → length left ≤ g → said_to f ws left ≡ said_to g ws left
unfolding said_to
more_turns zero zero ws left h k = refl
more_turns zero (suc g) ws [] h k = refl
more_turns zero (suc g) ws (x ∷ left) h k = absurd (omega arith)
more_turns (suc f) zero ws [] h k = refl
more_turns (suc f) zero ws (x ∷ left) h k = absurd (omega arith)
more_turns (suc f) (suc g) ws [] h k = refl
more_turns (suc f) (suc g) ws (x ∷ left) h k =
    go (λ n e. more_turns f g (done_on ws (take n (x ∷ left))).words (drop n (x ∷ left)) (fewer x left f n e h)
    (fewer x left g n e k))
    (next_of (x ∷ left) true) refl
  where
    says : ℕ → List ℕ
    says n = (done_on ws (take n (x ∷ left))).says

    after : ℕ → ℕ → List ℕ
    after most n = said_to most (done_on ws (take n (x ∷ left))).words (drop n (x ∷ left))

    go : ((n : ℕ) → next_of (x ∷ left) true ≡ Whole n → after f n ≡ after g n) → (next : Frame)
        → next_of (x ∷ left) true ≡ next
        → on_whole next bad (λ n. says n ++ after f n) ≡ on_whole next bad (λ n. says n ++ after g n)
    go same (More n) e = refl
    go same (Whole n) e = ap (λ (l : List ℕ). says n ++ l) (same n e)
    go same Stop e = refl

module _ (ws : List ℕ) where
  pub said-end : said_from ws [] ≡ []
  unfolding said_to
  said-end = refl

  pub said-broken : (left : List ℕ) (f : Frame) → 0 < length left → next_of left true ≡ f → ((n : ℕ) → f ≡ Whole n → ⊥)
      → said_from ws left ≡ bad
  unfolding said_to
  said-broken [] f h e never = absurd (omega arith)
  said-broken (x ∷ left) (More n) h e never = rw e
  said-broken (x ∷ left) (Whole n) h e never = absurd (never n refl)
  said-broken (x ∷ left) Stop h e never = rw e

  pub said-turn : (left : List ℕ) (n : ℕ) → next_of left true ≡ Whole n
      → said_from ws left ≡ (done_on ws (take n left)).says ++ said_from (done_on ws (take n left)).words (drop n left)
  unfolding said_to
  said-turn [] n e = absurd (omega (arith, (next-whole [] true n e).0, (next-whole [] true n e).1))
  said-turn (x ∷ left) n e =
      let done = done_on ws (take n (x ∷ left)) in
      let after = drop n (x ∷ left) in
      let shorter = fewer x left (length left) n e (omega arith) in
      rw e (ap (λ (l : List ℕ). done.says ++ l)
      (more_turns (length left) (length after) done.words after shorter (omega arith)))

-- kind 11 first
module _ (ws input : List ℕ) where
  pub begin-broken : (f : Frame) → next_of input false ≡ f → ((n : ℕ) → f ≡ Whole n → ⊥) → said_by ws input ≡ bad
  unfolding said_by
  begin-broken (More n) e never = rw e
  begin-broken (Whole n) e never = absurd (never n refl)
  begin-broken Stop e never = rw e

  module _ (n : ℕ) (e : next_of input false ≡ Whole n) where
    pub begin-refused : (r : Reply) → (open_from ws (take n input)).refused ≡ some r → said_by ws input ≡ bytes_for r
    unfolding said_by
    begin-refused r q = rw (e, q)

    pub begin-opened : (open_from ws (take n input)).refused ≡ none
        → said_by ws input ≡ said_from (open_from ws (take n input)).words (drop n input)
    unfolding said_by
    begin-opened q = rw (e, q)
