-- Laws: when a question is answered, what Permission's yes means, and that a reply is settled by its number and values.
-- Assumes nothing.
use Rattle.std.specs.Prelude.{ℕ, ◌<◌, ◌≡◌, refl, ◌⊎◌, not, ◌&&◌, true, cond, ◌∷◌, [], List, T, ltb, eqb, get_or, drop}
use Rattle.std.proofs.Common.{arith, subst, sym, ap, ◌∙◌, inl, inr, ltb→lt, lt→ltb, eqb→eq}
use Rattle.std.proofs.Math.Option.{Option, none, some}
use Rattle.lists.specs.TestLaws.{not-not, and_l, and_r, passed, first_of-none, all_from, not_intro, ◌also◌, both}
use Rattle.lists.specs.TestLaws.{not-from}
use Rattle.lists.specs.TestLaws.{done, either, tell, is_true, is_false, clash, same_test}
use Rattle.lists.proofs.ElementLaws.{first_passes, none_first, eq→eqb}
use Rattle.lists.specs.Tests.{first_of, every}
use Rattle.limits.specs.Limits.{prompt_count}
use Rattle.stamp.specs.Laws.{Covers, at_most-parts, parts-at_most}
use Rattle.stamp.specs.Stamp.{Stamp, stamp_fits, at_most, part}
use Rattle.tally.specs.Standing.{verdict_of, accepted}
use Rattle.tally.specs.declared.Standing.{Standing}
use Rattle.meaning.specs.Book.{Book, standing_at, sound, known}
use Rattle.meaning.specs.Reply.{Reply, is_answered, permits, refusal, verdict, showing_of, taken, already, wait}
use Rattle.meaning.specs.Reply.{gossiped, figures}
use Rattle.meaning.specs.BookLaws.{Sound, sound-at, at-sound}
use Rattle.meaning.specs.Step.{ask, ask_stops, stop_or, answer_of, Outcome, unknown_label}

-- a question changes no book
pub ask-keeps : (b : Book) (p : ℕ) (l : Stamp) → (ask b p l).book ≡ b
unfolding ask
ask-keeps b p l = go (first_of (ask_stops b p l))
  where
    go : (o : Option Reply) → (stop_or b (record { reply = answer_of (standing_at b p) b.value; book = b }) o).book ≡ b
    go none = refl
    go (some r) = refl

-- Question: what is seen to when nothing stops it
pub record AskDone (b : Book) (p : ℕ) (l : Stamp) : Type 0 where
  pub sound-before : Sound b
  pub prompt_in_lem : p < prompt_count
  pub label-fits : T (stamp_fits b.screens l)
  pub covered : Covers b.value l

ask-passed : (b : Book) (p : ℕ) (l : Stamp) → T (every (λ c. not c.0) (ask_stops b p l)) → AskDone b p l
unfolding ask_stops
ask-passed b p l t =
    passed (ask_stops b p l) t
    (λ sound-before fits own covered.
    let field = not-not (ltb p prompt_count && stamp_fits b.screens l) fits in
    record {
      sound-before = sound-at b (not-not (sound b) sound-before);
      prompt_in_lem = ltb→lt p prompt_count (and_l (ltb p prompt_count) (stamp_fits b.screens l) field);
      label-fits = and_r (ltb p prompt_count) (stamp_fits b.screens l) field;
      covered = at_most-parts l b.value (not-not (at_most l b.value) covered);
    })

pub ask_cases :
    (b : Book) (p : ℕ) (l : Stamp)
    → (T (not (is_answered (ask b p l).reply)) × T (not (permits (ask b p l).reply)))
    ⊎ (AskDone b p l × ((ask b p l).reply ≡ answer_of (standing_at b p) b.value))
unfolding ask ask_stops
ask_cases b p l = go (first_of (ask_stops b p l)) refl
  where
    out : Outcome
    out = record { reply = answer_of (standing_at b p) b.value; book = b }

    go :
        (o : Option Reply) → first_of (ask_stops b p l) ≡ o
        → (T (not (is_answered (stop_or b out (first_of (ask_stops b p l))).reply))
        × T (not (permits (stop_or b out (first_of (ask_stops b p l))).reply)))
        ⊎ (AskDone b p l × ((stop_or b out (first_of (ask_stops b p l))).reply ≡ answer_of (standing_at b p) b.value))
    go (some r) e =
        inl (
          subst (λ (x : Option Reply). T (not (is_answered (stop_or b out x).reply))) (sym e)
              (first_passes (λ x. not (is_answered x)) (ask_stops b p l) tt r e),
          subst (λ (x : Option Reply). T (not (permits (stop_or b out x).reply))) (sym e)
              (first_passes (λ x. not (permits x)) (ask_stops b p l) tt r e),
        )
    go none e =
        inr (ask-passed b p l (first_of-none (ask_stops b p l) e), ap (λ (x : Option Reply). (stop_or b out x).reply) e)

-- refusal 3 is given only to a label whose part i exceeds the known stamp's
label_exceeds : (b : Book) (l : Stamp) → T (unknown_label b l) → part (known b) b.me < part l b.me
label_exceeds b l t = ltb→lt (part (known b) b.me) (part l b.me) t

pub ask-answers : (b : Book) (p : ℕ) (l : Stamp) → AskDone b p l
    → (ask b p l).reply ≡ answer_of (standing_at b p) b.value
unfolding ask ask_stops
ask-answers b p l d = ap
    (λ (x : Option Reply). (stop_or b (record { reply = answer_of (standing_at b p) b.value; book = b }) x).reply)
    (none_first (ask_stops b p l) clear)
  where
    clear : T (every (λ c. not c.0) (ask_stops b p l))
    clear =
        all_from {cs = not (not (sound b)) ∷ not (not (ltb p prompt_count && stamp_fits b.screens l))
        ∷ not (unknown_label b l) ∷ not (not (at_most l b.value)) ∷ []}
        (not_intro (sound b) (at-sound b d.sound-before)
        also not_intro (ltb p prompt_count && stamp_fits b.screens l)
        (both (ltb p prompt_count) (stamp_fits b.screens l) (lt→ltb p prompt_count d.prompt_in_lem) d.label-fits)
        also not-from (unknown_label b l)
        (λ u. omega (arith, label_exceeds b l u, d.covered b.me, d.sound-before.value-known b.me))
        also not_intro (at_most l b.value) (parts-at_most l b.value d.covered)
        also done)

is-answer : (s : Standing) (v : Stamp) → is_answered (answer_of s v) ≡ true
unfolding answer_of
is-answer s v = refl

-- A well-formed question to a sound book is answered exactly when the book's value stamp covers its label.
pub answered_exactly : (b : Book) (p : ℕ) (l : Stamp) → T (sound b) → p < prompt_count → T (stamp_fits b.screens l)
    → is_answered (ask b p l).reply ≡ at_most l b.value
answered_exactly b p l s h f =
    either (tell (at_most l b.value))
    (λ c. ap is_answered (ask-answers b p l
    (record { sound-before = sound-at b s; prompt_in_lem = h; label-fits = f; covered = at_most-parts l b.value c }))
    ∙ is-answer (standing_at b p) b.value ∙ sym (is_true (at_most l b.value) c))
    (λ c. either (ask_cases b p l)
    (λ w. is_false (is_answered (ask b p l).reply) w.0 ∙ sym (is_false (at_most l b.value) c))
    (λ w. clash (at_most l b.value) (parts-at_most l b.value w.0.covered) c))

-- an answered question was not stopped
pub answered-done : (b : Book) (p : ℕ) (l : Stamp) → T (is_answered (ask b p l).reply) → AskDone b p l
answered-done b p l t = either (ask_cases b p l) (λ w. clash (is_answered (ask b p l).reply) t w.0) (λ w. w.0)

pub done-answered : (b : Book) (p : ℕ) (l : Stamp) → AskDone b p l → T (is_answered (ask b p l).reply)
done-answered b p l d = subst T (sym (ap is_answered (ask-answers b p l d) ∙ is-answer (standing_at b p) b.value)) tt

-- what Permission's yes means
pub record Permitted (b : Book) (p : ℕ) (l : Stamp) : Type 0 where
  pub asked : AskDone b p l
  pub yes : verdict_of (standing_at b p) ≡ accepted
  pub shown : showing_of (ask b p l).reply ≡ (standing_at b p).showing

answer-showing : (s : Standing) (v : Stamp) → showing_of (answer_of s v) ≡ s.showing
unfolding answer_of
answer-showing s v = refl

answer-permits : (s : Standing) (v : Stamp) → T (permits (answer_of s v)) → verdict_of s ≡ accepted
unfolding answer_of
answer-permits s v t = eqb→eq (verdict_of s) accepted t

pub permits-means : (b : Book) (p : ℕ) (l : Stamp) → T (permits (ask b p l).reply) → Permitted b p l
permits-means b p l t =
    either (ask_cases b p l) (λ w. clash (permits (ask b p l).reply) t w.1)
    (λ w.
    record {
      asked = w.0;
      yes = answer-permits (standing_at b p) b.value (subst (λ (r : Reply). T (permits r)) w.1 t);
      shown = ap showing_of w.1 ∙ answer-showing (standing_at b p) b.value;
    })

-- Permission: yes exactly when the question is answered and the verdict is Accepted.
permits-answer : (s : Standing) (v : Stamp) → T (eqb (verdict_of s) accepted) → T (permits (answer_of s v))
unfolding answer_of
permits-answer s v t = t

pub permits_exactly : (b : Book) (p : ℕ) (l : Stamp)
    → permits (ask b p l).reply ≡ (is_answered (ask b p l).reply && eqb (verdict_of (standing_at b p)) accepted)
permits_exactly b p l = same_test (permits r) (is_answered r && eqb (verdict_of (standing_at b p)) accepted)
    (λ t. only (permits-means b p l t))
    (λ t. enough (and_l (is_answered r) (eqb (verdict_of (standing_at b p)) accepted) t)
    (and_r (is_answered r) (eqb (verdict_of (standing_at b p)) accepted) t))
  where
    r : Reply
    r = (ask b p l).reply

    only : Permitted b p l → T (is_answered r && eqb (verdict_of (standing_at b p)) accepted)
    only y = both (is_answered r) (eqb (verdict_of (standing_at b p)) accepted) (done-answered b p l y.asked)
        (eq→eqb (verdict_of (standing_at b p)) accepted y.yes)

    enough : T (is_answered r) → T (eqb (verdict_of (standing_at b p)) accepted) → T (permits r)
    enough a e = subst (λ (x : Reply). T (permits x)) (sym (ask-answers b p l (answered-done b p l a)))
        (permits-answer (standing_at b p) b.value e)

-- the number and the values settle the reply
reading : List ℕ → Reply
reading ns =
    cond (eqb (get_or ns 0 0) 5) (taken (drop 1 ns))
    (cond (eqb (get_or ns 0 0) 6) (already (drop 1 ns))
    (cond (eqb (get_or ns 0 0) 7) (verdict (get_or ns 1 0) (get_or ns 2 0) (get_or ns 3 0) (get_or ns 4 0) (drop 5 ns))
    (cond (eqb (get_or ns 0 0) 8) (wait (get_or ns 1 0))
    (cond (eqb (get_or ns 0 0) 9) (refusal (get_or ns 1 0))
    (gossiped (get_or ns 1 0) (get_or ns 2 0))))))

read-figures : (r : Reply) → reading (figures r) ≡ r
unfolding reading
read-figures (taken s) = refl
read-figures (already s) = refl
read-figures (verdict v h a d s) = refl
read-figures (wait bits) = refl
read-figures (refusal k) = refl
read-figures (gossiped new applied) = refl

pub figures-one : (x y : Reply) → figures x ≡ figures y → x ≡ y
figures-one x y e = sym (read-figures x) ∙ ap reading e ∙ read-figures y
