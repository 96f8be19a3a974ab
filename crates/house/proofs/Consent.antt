-- No refused consent goes live, in any run. Assumes nothing.
use Prim.Native.Nat.{ℕ, ◌<◌, ◌≤◌}
use native.Mathlib.Omega.{arith}
use mathlib.Core.Path.{ap, ◌≡◌, ◌∙◌, sym, subst, refl}
use mathlib.Core.Logic.{◌≢◌, ◌⊎◌, inl, inr}
use mathlib.Core.Bool.{not}
use mathlib.Core.List.{List}
use lib.Dec.{T, ltb, ltb→lt, nltb→le, eqb, eqb→eq}
use Rattle.lists.specs.TestLaws.{◌∈◌, either, tell, not-from, given, clash}
use Rattle.lists.proofs.ElementLaws.{eq→eqb}
use Rattle.limits.specs.Limits.{decline, accept, fewest, most}
use Rattle.stamp.specs.Laws.{at_most-parts}
use Rattle.stamp.specs.Stamp.{Stamp, at_most}
use Rattle.tally.specs.Body.{taps_in, body_fits}
use Rattle.tally.proofs.BodyLaws.{taps-body}
use Rattle.tally.specs.Standing.{standing, contested, verdict_of, highest, of_prompt}
use Rattle.tally.specs.declared.Standing.{Standing}
use Rattle.tally.proofs.StandingLaws.{decline-counted, standing-over, accepted-only, accept-there, standing-showing}
use Rattle.tally.proofs.StandingLaws.{both-contested, accept-counted, contested-not}
use Rattle.tally.specs.Tap.{tap_fits}
use Rattle.tally.proofs.TapLaws.{prompt_in_lem, answer_either}
use Rattle.tally.specs.declared.Tap.{Tap}
use Rattle.ledger.specs.Record.{Record, stamp_of, is_applied}
use Rattle.ledger.proofs.RecordLaws.{obeys}
use Rattle.meaning.proofs.AnswerLaws.{Permitted, permits-means}
use Rattle.meaning.specs.Book.{Book, ready, standing_at}
use Rattle.meaning.specs.Reply.{showing_of, permits}
use Rattle.meaning.specs.Step.{ask}
use Rattle.house.specs.Consent.{answer_at, Applied, is_latest, double_rules, is_double, Consent}
use Rattle.house.specs.Demand.{applied_taps}
use Rattle.house.specs.House.{House, Run}
use Rattle.house.proofs.Demand.{fresh-counts, mem-taps-applied, covered-is-applied, taps-applied_mem}
use Rattle.house.proofs.Demand.{value-ready}
use Rattle.house.proofs.Invariant.{Inv, Tapped}
use Rattle.house.proofs.Runs.{run_inv}

module _ (n : ℕ) (h : House) (v : Inv n h) (i : ℕ) (u : i < n) where
  abbrev b : Book
  b = h.book i

  abbrev taps : List Tap
  taps = applied_taps (ready (h.book i)) h.history

  tap-fits : (r : Record) → r ∈ h.history → (t : Tap) → t ∈ taps_in r.body → T (tap_fits t)
  tap-fits r m t x = taps-body r.body (obeys body_fits n r (v.taken.obey r m)).body-fits t x

  in-taps : (t : Tap) → Applied h i t → t ∈ taps
  in-taps t a = mem-taps-applied (ready b) h.history a.from t a.taken a.applied a.says

  -- an applied decline that is not below the answered showing would be counted at it
  applied-below :
      (p : ℕ) (l : Stamp) → Permitted b p l → (t : Tap) → Applied h i t → t.prompt ≡ p → t.answer ≡ decline
      → t.showing < showing_of (answer_at h i p l)
  applied-below p l y t a e f =
      either (tell (ltb t.showing (standing taps p).showing))
      (λ less. omega (
        arith,
        ltb→lt t.showing (standing taps p).showing less,
        y.shown,
        ap (λ (s : Standing). s.showing) same,
      ))
      (λ more. absurd (omega (
        arith,
        decline-counted taps p t (in-taps t a) e (top more) f,
        none-declined,
        ap (λ (s : Standing). s.declines) same,
      )))
    where
      same : standing_at b p ≡ standing taps p
      same = fresh-counts n h v i u p y.asked.prompt_in_lem

      none-declined : (standing_at b p).declines ≡ 0
      none-declined = (accepted-only (standing_at b p) y.yes).1

      top : T (not (ltb t.showing (standing taps p).showing)) → t.showing ≡ (standing taps p).showing
      top more = omega (
        arith,
        nltb→le t.showing (standing taps p).showing more,
        standing-over taps p t (in-taps t a) e,
      )

  -- a record that the label covers is applied, since the value stamp covers the label
  label-applied :
      (p : ℕ) (l : Stamp) → Permitted b p l → (r : Record) → r ∈ h.history → T (at_most (stamp_of r) l)
      → T (is_applied (ready b) r)
  label-applied p l y r m c =
      covered-is-applied n h v i u r m
      (λ k. omega (arith, at_most-parts (stamp_of r) l c k, y.asked.covered k, value-ready n h v i u k))

  yes-was-tapped : (p : ℕ) (l : Stamp) → Permitted b p l
      → (t : Tap) × Applied h i t × (t.prompt ≡ p) × (t.answer ≡ accept) × (t.showing ≡ showing_of (answer_at h i p l))
  yes-was-tapped p l y = go
      (accept-there taps p (omega
      (arith, (accepted-only (standing_at b p) y.yes).0, ap (λ (s : Standing). s.accepts) same)))
    where
      same : standing_at b p ≡ standing taps p
      same = fresh-counts n h v i u p y.asked.prompt_in_lem

      found : (t : Tap) → Tapped h.history (ready b) t → Applied h i t
      found t w = record { from = w.0; taken = w.1; applied = w.2; says = w.3 }

      go :
          ((t : Tap) × (t ∈ taps) × (t.prompt ≡ p) × (t.showing ≡ (standing taps p).showing) × (t.answer ≡ accept))
          → (t : Tap) × Applied h i t × (t.prompt ≡ p) × (t.answer ≡ accept)
          × (t.showing ≡ showing_of (answer_at h i p l))
      go w =
          let shown = w.3 ∙ sym (y.shown ∙ ap (λ (s : Standing). s.showing) same) in
          (w.0, found w.0 (taps-applied_mem (ready b) h.history w.0 w.1), w.2, w.4, shown)

  -- two applied taps of one prompt with two answers, both of the highest showing
  contrary-contested :
      (t w : Tap) → w.prompt ≡ t.prompt → t.answer ≢ w.answer → Applied h i t → Applied h i w → T (is_latest h i t)
      → T (is_latest h i w)
      → verdict_of (standing_at (h.book i) t.prompt) ≡ contested
  unfolding is_latest
  contrary-contested t w e d x y a c =
      subst (λ (s : Standing). verdict_of s ≡ contested)
      (sym (fresh-counts n h v i u t.prompt (prompt_in_lem t (fit t x))))
      (go (answer_either t (fit t x)) (answer_either w (fit w y)))
    where
      fit : (z : Tap) → Applied h i z → T (tap_fits z)
      fit z q = tap-fits q.from q.taken z q.says

      top_t : t.showing ≡ (standing taps t.prompt).showing
      top_t = eqb→eq t.showing (highest (of_prompt t.prompt taps)) a ∙ sym (standing-showing taps t.prompt)

      top_w : w.showing ≡ (standing taps t.prompt).showing
      top_w = eqb→eq w.showing (highest (of_prompt w.prompt taps)) c ∙ ap (λ (p : ℕ). highest (of_prompt p taps)) e
          ∙ sym (standing-showing taps t.prompt)

      go : (t.answer ≡ accept) ⊎ (t.answer ≡ decline) → (w.answer ≡ accept) ⊎ (w.answer ≡ decline)
          → verdict_of (standing taps t.prompt) ≡ contested
      go (inl f) (inl g) = absurd (d (f ∙ sym g))
      go (inr f) (inr g) = absurd (d (f ∙ sym g))
      go (inl f) (inr g) =
          both-contested (standing taps t.prompt) (accept-counted taps t.prompt t (in-taps t x) refl top_t f)
          (decline-counted taps t.prompt w (in-taps w y) e top_w g)
      go (inr f) (inl g) =
          both-contested (standing taps t.prompt) (accept-counted taps t.prompt w (in-taps w y) e top_w g)
          (decline-counted taps t.prompt t (in-taps t x) refl top_t f)

contested_no : (b : Book) (p : ℕ) → verdict_of (standing_at b p) ≡ contested → (l : Stamp)
    → T (not (permits (ask b p l).reply))
contested_no b p e l = not-from (permits (ask b p l).reply) (λ y. contested-not (sym e ∙ (permits-means b p l y).yes))

double-prompt : (t w : Tap) → T (is_double t w) → w.prompt ≡ t.prompt
unfolding is_double
double-prompt t w d =
    given (double_rules t w) d (λ front serial prompt answer. sym (eqb→eq t.prompt w.prompt prompt))

double-answers : (t w : Tap) → T (is_double t w) → t.answer ≢ w.answer
unfolding is_double
double-answers t w d e =
    given (double_rules t w) d
    (λ front serial prompt answer.
    clash (eqb t.answer w.answer) (eq→eqb t.answer w.answer e) answer)

pub no-refused-consent : (n : ℕ) → fewest ≤ n → n ≤ most → (h : House) → Run n h → Consent n h
no-refused-consent n lo hi h run =
    let v : Inv n h = run_inv n lo hi run in
    record {
      applied-below = λ i u p l y t a e f. applied-below n h v i u p l (permits-means (h.book i) p l y) t a e f;
      declines-below = λ i u p l y r m c t x e f.
          let z : Permitted (h.book i) p l = permits-means (h.book i) p l y in
          applied-below n h v i u p l z t
          (record { from = r; taken = m; applied = label-applied n h v i u p l z r m c; says = x }) e f;
      yes-was-tapped = λ i u p l y. yes-was-tapped n h v i u p l (permits-means (h.book i) p l y);
      double-contested = λ i u t w d x y a c.
          let e : verdict_of (standing_at (h.book i) t.prompt)
          ≡ contested = contrary-contested n h v i u t w (double-prompt t w d) (double-answers t w d) x y a c in
          (e, contested_no (h.book i) t.prompt e);
    }
