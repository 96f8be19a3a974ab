-- Laws of counting tap by tap: which taps are counted, that the two counts grow with the taps, and that counts which
-- follow from the counted taps go on to. Assumes nothing.
use Rattle.std.specs.Prelude.{ℕ, ◌<◌, ◌+◌, ◌≤◌, ◌≡◌, refl, ◌≢◌, ◌⊎◌, Bool, not}
use Rattle.std.specs.Prelude.{cond, List, [], ◌∷◌, ◌++◌, T, eqb, ltb}
use Rattle.std.specs.Prelude.{length, get_or, set}
use Rattle.std.proofs.Common.{arith, ap, ◌∙◌, sym, subst, inl, inr, eqb→eq, ltb→lt, nltb→le, length-set}
use Rattle.lists.specs.TestLaws.{◌∈◌, here, there, either, tell, is_true, is_false, clash}
use Rattle.lists.proofs.ElementLaws.{same_or_not, insert-new, bit-apart, set_mem, get_or-all}
use Rattle.lists.specs.Order.{rising, insert, insert_all}
use Rattle.lists.proofs.Sorted.{insert-same, put_all}
use Rattle.limits.specs.Limits.{accept, decline, prompt_count}
use Rattle.tally.specs.Standing.{among, afresh, blank, count, counting, count_all, noted, one_if}
use Rattle.tally.proofs.StandingLaws.{noted_higher, noted-equal, noted-lower, one_if-bit, accept-decline}
use Rattle.tally.proofs.StandingLaws.{afresh-more}
use Rattle.tally.specs.Tap.{fields}
use Rattle.tally.proofs.TapLaws.{among_mem, mem-among}
use Rattle.tally.proofs.WordLaws.{fields-same}
use Rattle.tally.specs.declared.Standing.{Standing}
use Rattle.tally.specs.declared.Tap.{Tap}

-- counting one tap comes to nothing, or to one more counted tap that is noted at its prompt
pub count_either :
    (t : Tap) (cs : List Tap) (ps : List Standing)
    → (T (among cs t) × (count t (cs, ps) ≡ (cs, ps)))
    ⊎ (T (not (among cs t))
    × (count t (cs, ps) ≡ (insert fields t cs, set ps t.prompt (noted t (get_or ps t.prompt blank)))))
unfolding count
count_either t cs ps =
    either (tell (among cs t)) (λ h. inl (h, ap (λ (c : Bool). cond c (cs, ps) more) (is_true (among cs t) h)))
    (λ h. inr (h, ap (λ (c : Bool). cond c (cs, ps) more) (is_false (among cs t) h)))
  where
    more : List Tap × List Standing
    more = (insert fields t cs, set ps t.prompt (noted t (get_or ps t.prompt blank)))

not-among : (t : Tap) (cs : List Tap) → T (not (among cs t)) → (u : Tap) → u ∈ cs → fields t ≢ fields u
not-among t cs h u m q =
    clash (among cs t) (mem-among t cs (subst (λ (x : Tap). x ∈ cs) (sym (fields-same t u q)) m)) h

-- the counted taps, whatever the standings
count-taps :
    (t : Tap) (cs : List Tap) (ps : List Standing) → T (rising fields cs) → (count t (cs, ps)).0 ≡ insert fields t cs
count-taps t cs ps o =
    either (count_either t cs ps)
    (λ w. ap (λ (x : List Tap × List Standing). x.0) w.1 ∙ sym (insert-same fields t cs o (among_mem t cs w.0)))
    (λ w. ap (λ (x : List Tap × List Standing). x.0) w.1)

pub counting-taps :
    (ts cs : List Tap) (ps : List Standing) → T (rising fields cs) → (counting ts (cs, ps)).0 ≡ count_all ts cs
unfolding count_all
counting-taps [] cs ps o = refl
counting-taps (t ∷ ts) cs ps o =
    let same : (counting ts (cs, ps)).0 ≡ insert_all fields ts cs = counting-taps ts cs ps o in
    let order : T (rising fields (counting ts (cs, ps)).0) =
    subst (λ (l : List Tap). T (rising fields l)) (sym same) ((put_all fields ts cs).order o) in
    count-taps t (counting ts (cs, ps)).0 (counting ts (cs, ps)).1 order ∙ ap (insert fields t) same

-- counting some taps, then more
pub counting_append :
    (xs ys : List Tap) (st : List Tap × List Standing) → counting (xs ++ ys) st ≡ counting xs (counting ys st)
counting_append [] ys st = refl
counting_append (x ∷ xs) ys st = ap (count x) (counting_append xs ys st)

-- a standing for each prompt, before and after
count_long : (t : Tap) (cs : List Tap) (ps : List Standing) → length (count t (cs, ps)).1 ≡ length ps
count_long t cs ps =
    either (count_either t cs ps) (λ w. ap (λ (x : List Tap × List Standing). length x.1) w.1)
    (λ w. ap (λ (x : List Tap × List Standing). length x.1) w.1 ∙ length-set ps t.prompt _)

pub counting-long : (ts cs : List Tap) (ps : List Standing) → length (counting ts (cs, ps)).1 ≡ length ps
counting-long [] cs ps = refl
counting-long (t ∷ ts) cs ps =
    count_long t (counting ts (cs, ps)).0 (counting ts (cs, ps)).1 ∙ counting-long ts cs ps

-- noting one tap raises the two counts together by at most one
one_answer : (t : Tap) → one_if accept t + one_if decline t ≤ 1
one_answer t =
    let few = bit-apart (eqb t.answer accept) (eqb t.answer decline) apart in
    omega (arith, one_if-bit accept t, one_if-bit decline t, few)
  where
    apart : T (eqb t.answer accept) → T (eqb t.answer decline) → ⊥
    apart a c = omega (arith, accept-decline, eqb→eq t.answer accept a, eqb→eq t.answer decline c)

abbrev both-counts : Standing → ℕ
both-counts s = s.accepts + s.declines

noted-few : (t : Tap) (s : Standing) → (noted t s).accepts + (noted t s).declines ≤ s.accepts + s.declines + 1
noted-few t s =
    either (tell (ltb s.showing t.showing))
    (λ h. omega (arith, ap both-counts (noted_higher t s (ltb→lt s.showing t.showing h)), one_answer t))
    (λ h. either (same_or_not t.showing s.showing)
    (λ e. omega (arith, ap both-counts (noted-equal t s e), one_answer t))
    (λ d. omega (arith, ap both-counts (noted-lower t s (nltb→le s.showing t.showing h) d))))

-- .. so with w more than its two counts below x, one tap later they are below x + 1
count-few :
    (t : Tap) (cs : List Tap) (ps : List Standing) (w x : ℕ)
    → ((s : Standing) → s ∈ ps → s.accepts + s.declines + w ≤ x) → w ≤ x
    → (s : Standing) → s ∈ (count t (cs, ps)).1 → s.accepts + s.declines + w ≤ x + 1
count-few t cs ps w x f z s m =
    either (count_either t cs ps)
    (λ e. omega (arith, f s (subst (λ (y : List Tap × List Standing). s ∈ y.1) e.1 m)))
    (λ e. either (set_mem ps t.prompt own (subst (λ (y : List Tap × List Standing). s ∈ y.1) e.1 m))
    (λ q. omega (arith, ap both-counts q, noted-few t (get_or ps t.prompt blank), before)) (λ n. omega (arith, f s n)))
  where
    own : Standing
    own = noted t (get_or ps t.prompt blank)

    before : (get_or ps t.prompt blank).accepts + (get_or ps t.prompt blank).declines + w ≤ x
    before = get_or-all (λ (y : Standing). y.accepts + y.declines + w ≤ x) ps blank f (omega (arith, z)) t.prompt

pub counting-few :
    (ts cs : List Tap) (ps : List Standing) (w x : ℕ)
    → ((s : Standing) → s ∈ ps → s.accepts + s.declines + w ≤ x) → w ≤ x
    → (s : Standing) → s ∈ (counting ts (cs, ps)).1 → s.accepts + s.declines + w ≤ x + length ts
counting-few [] cs ps w x f z s m = omega (arith, f s m)
counting-few (t ∷ ts) cs ps w x f z s m =
    let st : List Tap × List Standing = counting ts (cs, ps) in
    omega (arith, count-few t st.0 st.1 w (x + length ts) (counting-few ts cs ps w x f z) (omega (arith, z)) s m)

-- Counts that follow from the counted taps follow from them after. Only the clause of soundness rests on this: order 1
-- keeps counts when taps leave.
count-afresh :
    (t : Tap) (cs : List Tap) (ps : List Standing) → ps ≡ afresh cs → t.prompt < prompt_count
    → (count t (cs, ps)).1 ≡ afresh (count t (cs, ps)).0
count-afresh t cs ps e h =
    either (count_either t cs ps)
    (λ w. subst (λ (x : List Tap × List Standing). x.1 ≡ afresh x.0) (sym w.1) e)
    (λ w. subst (λ (x : List Tap × List Standing). x.1 ≡ afresh x.0) (sym w.1) (more w.0))
  where
    at-prompt : List Standing → List Standing
    at-prompt ss = set ss t.prompt (noted t (get_or ss t.prompt blank))

    more : T (not (among cs t)) → at-prompt ps ≡ afresh (insert fields t cs)
    more n =
        ap at-prompt e ∙ sym (afresh-more t cs (insert fields t cs) (insert-new fields t cs (not-among t cs n)) h)

pub counting-afresh :
    (ts cs : List Tap) (ps : List Standing) → ps ≡ afresh cs → ((t : Tap) → t ∈ ts → t.prompt < prompt_count)
    → (counting ts (cs, ps)).1 ≡ afresh (counting ts (cs, ps)).0
counting-afresh [] cs ps e f = e
counting-afresh (t ∷ ts) cs ps e f =
    let st : List Tap × List Standing = counting ts (cs, ps) in
    count-afresh t st.0 st.1 (counting-afresh ts cs ps e (λ u m. f u (there m))) (f t here)
