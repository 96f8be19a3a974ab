-- Laws: numbers that are equal or not, lists with an element replaced or put in, numbered lists. Assumes nothing.
use Rattle.std.specs.Prelude.{ℕ, ◌≤◌, ◌+◌, zero, suc, ◌<◌, ◌≡◌, refl, ◌⊎◌, ◌≢◌, not, Bool, true, false, cond, ◌||◌}
use Rattle.std.specs.Prelude.{◌&&◌, List, [], ◌∷◌, map, eqb, T, set, replicate, length, get_or}
use Rattle.std.proofs.Common.{add-zero, suc-add, add-suc, arith, subst, ap, ap₂, sym, ◌∙◌, inl, inr, eqb→eq}
use Rattle.std.proofs.Common.{get_or-set_same, get_or-set_other}
use mathlib.Core.List.Memᴰ
use Rattle.std.proofs.Math.Option.{some, none}
use Rattle.std.proofs.Math.Dec.{eqb_refl}
use Rattle.lists.specs.TestLaws.{either, tell, clash, bit, bit_le, both, and_r, and_l, here, ◌∈◌, there, is_true}
use Rattle.lists.specs.TestLaws.{is_false, keep-length, mem-keep, none_in, keep_mem, first_of-some, every-at}
use Rattle.lists.specs.Order.{insert, key_before}
use Rattle.lists.proofs.Sorted.{before-total}
use Rattle.lists.specs.Tests.{every, all_below, numbers, keep, first_of}

pub eq→eqb : (a b : ℕ) → a ≡ b → T (eqb a b)
eq→eqb a b e = subst (λ (x : ℕ). T (eqb a x)) e (eqb_refl a)

pub same_or_not : (a b : ℕ) → (a ≡ b) ⊎ (a ≢ b)
same_or_not a b = either (tell (eqb a b)) (λ t. inl (eqb→eq a b t)) (λ t. inr (λ e. clash (eqb a b) (eq→eqb a b e) t))

-- two tests that never pass together
pub bit-apart : (a c : Bool) → (T a → T c → ⊥) → bit a + bit c ≤ 1
bit-apart true true f = absurd (f tt tt)
bit-apart true false f = omega arith
bit-apart false c f = omega (arith, bit_le c)

-- an element replaced, and the same element many times
pub every_set : {A : Type 0} (p : A → Bool) (xs : List A) (i : ℕ) (v : A) → T (every p xs) → T (p v)
    → T (every p (set xs i v))
every_set p [] i v t u = tt
every_set p (x ∷ xs) zero v t u = both (p v) (every p xs) u (and_r (p x) (every p xs) t)
every_set p (x ∷ xs) (suc i) v t u =
    both (p x) (every p (set xs i v)) (and_l (p x) (every p xs) t) (every_set p xs i v (and_r (p x) (every p xs) t) u)

pub every-replicate : {A : Type 0} (p : A → Bool) (n : ℕ) (a : A) → T (p a) → T (every p (replicate n a))
every-replicate p zero a t = tt
every-replicate p (suc n) a t = both (p a) (every p (replicate n a)) t (every-replicate p n a t)

pub regroup : (a b c d : Bool) → ((a && b) && (c && d)) ≡ ((a && c) && (b && d))
regroup true true c d = refl
regroup true false true d = refl
regroup true false false d = refl
regroup false b c d = refl

-- two tests of all are one test of all, and a test may be told in other words
pub every_and : {A : Type 0} (p q : A → Bool) (xs : List A) → every (λ x. p x && q x) xs ≡ (every p xs && every q xs)
every_and p q [] = refl
every_and p q (x ∷ xs) =
    ap (λ (b : Bool). (p x && q x) && b) (every_and p q xs) ∙ regroup (p x) (q x) (every p xs) (every q xs)

pub every-same : {A : Type 0} (p q : A → Bool) (xs : List A) → ((x : A) → p x ≡ q x) → every p xs ≡ every q xs
every-same p q [] f = refl
every-same p q (x ∷ xs) f = ap₂ ◌&&◌ (f x) (every-same p q xs f)

pub below-same : (n : ℕ) (p q : ℕ → Bool) → ((k : ℕ) → k < n → p k ≡ q k) → all_below n p ≡ all_below n q
below-same zero p q f = refl
below-same (suc n) p q f = ap₂ ◌&&◌ (f n (omega arith)) (below-same n p q (λ k h. f k (omega arith)))

pub set_either : {A : Type 0} (xs : List A) (i : ℕ) (v : A) (j : ℕ) (d : A) → i < length xs
    → ((j ≡ i) × (get_or (set xs i v) j d ≡ v)) ⊎ (get_or (set xs i v) j d ≡ get_or xs j d)
set_either xs i v j d h =
    either (same_or_not j i)
    (λ e. inl (e, subst (λ (k : ℕ). get_or (set xs i v) k d ≡ v) (sym e) (get_or-set_same xs i v d h)))
    (λ n. inr (get_or-set_other xs i j v d n))

pub set_mem : {A : Type 0} (xs : List A) (i : ℕ) (v : A) {y : A} → y ∈ set xs i v → (y ≡ v) ⊎ (y ∈ xs)
set_mem [] i v m = none_in m
set_mem (x ∷ xs) zero v m = either (Memᴰ.cases_cons m) (λ e. inl e) (λ n. inr (there n))
set_mem (x ∷ xs) (suc i) v m =
    either (Memᴰ.cases_cons m) (λ e. inr (Memᴰ.head e))
    (λ n. either (set_mem xs i v n) (λ e. inl e) (λ k. inr (there k)))

-- what holds of all of a list and of the default holds at every place
pub get_or-all :
    {A : Type 0} (P : A → Type 0) (xs : List A) (d : A) → ((x : A) → x ∈ xs → P x) → P d → (k : ℕ) → P (get_or xs k d)
get_or-all P [] d f z k = z
get_or-all P (x ∷ xs) d f z zero = f x here
get_or-all P (x ∷ xs) d f z (suc k) = get_or-all P xs d (λ y m. f y (there m)) z k

-- the numbers from k on
pub numbers-length : (k n : ℕ) → length (numbers k n) ≡ n
numbers-length k zero = refl
numbers-length k (suc n) = ap suc (numbers-length (suc k) n)

pub numbers-at : {A : Type 0} (f : ℕ → A) (d : A) (c k p : ℕ) → p < c → get_or (map f (numbers k c)) p d ≡ f (k + p)
numbers-at f d zero k p h = absurd (omega arith)
numbers-at f d (suc c) k zero h = ap f (sym (add-zero k))
numbers-at f d (suc c) k (suc p) h = numbers-at f d c (suc k) p (omega arith) ∙ ap f (suc-add k p ∙ sym (add-suc k p))

-- a list with one more element in it
pub data OneMore {A : Type 0} (t : A) : List A → List A → Type 0 where
  at : {ts : List A} → OneMore t ts (t ∷ ts)
  later : {y : A} {ts us : List A} → OneMore t ts us → OneMore t (y ∷ ts) (y ∷ us)

module _ {A : Type 0} (key : A → List ℕ) where
  pub insert-new : (t : A) (ts : List A) → ((u : A) → u ∈ ts → key t ≢ key u) → OneMore t ts (insert key t ts)
  insert-new t [] f = at
  insert-new t (y ∷ ys) f =
      go (key_before (key t) (key y)) refl (key_before (key y) (key t)) refl (insert-new t ys (λ u m. f u (there m)))
    where
      go :
          (c : Bool) → key_before (key t) (key y) ≡ c → (d : Bool) → key_before (key y) (key t) ≡ d
          → OneMore t ys (insert key t ys)
          → OneMore t (y ∷ ys) (cond c (t ∷ y ∷ ys) (cond d (y ∷ insert key t ys) (y ∷ ys)))
      go true e d e' r = at
      go false e true e' r = later r
      go false e false e' r = absurd
          (f y here (before-total (key t) (key y) (subst (λ (x : Bool). T (not x)) (sym e) tt)
          (subst (λ (x : Bool). T (not x)) (sym e') tt)))

module _ {A : Type 0} (q : A → Bool) (t : A) where
  pub more_in : T (q t) → {ts us : List A} → OneMore t ts us → OneMore t (keep q ts) (keep q us)
  more_in h {ts} at = subst (λ (c : Bool). OneMore t (keep q ts) (cond c (t ∷ keep q ts) (keep q ts)))
      (sym (is_true (q t) h)) at
  more_in h (later {y} {ts} {us} r) = go (q y) (more_in h r)
    where
      go : (c : Bool) → OneMore t (keep q ts) (keep q us)
          → OneMore t (cond c (y ∷ keep q ts) (keep q ts)) (cond c (y ∷ keep q us) (keep q us))
      go true r' = later r'
      go false r' = r'

  pub more-out : T (not (q t)) → {ts us : List A} → OneMore t ts us → keep q us ≡ keep q ts
  more-out h {ts} at = ap (λ (c : Bool). cond c (t ∷ keep q ts) (keep q ts)) (is_false (q t) h)
  more-out h (later {y} {ts} {us} r) = ap (λ (l : List A). cond (q y) (y ∷ l) l) (more-out h r)

  pub more-count : {ts us : List A} → OneMore t ts us → length (keep q us) ≡ length (keep q ts) + bit (q t)
  more-count {ts} at = omega (arith, keep-length q t ts)
  more-count (later {y} {ts} {us} r) = omega (arith, keep-length q y ts, keep-length q y us, more-count r)

-- something is kept exactly when something passes the test
pub keep_some : {A : Type 0} (q : A → Bool) (xs : List A) {x : A} → x ∈ xs → T (q x) → 0 < length (keep q xs)
keep_some q xs m h = some_in (keep q xs) (mem-keep q xs m h)
  where
    some_in : {A : Type 0} (ys : List A) {y : A} → y ∈ ys → 0 < length ys
    some_in [] n = none_in n
    some_in (z ∷ zs) n = omega arith

pub some-kept : {A : Type 0} (q : A → Bool) (xs : List A) → 0 < length (keep q xs) → (x : A) × (x ∈ xs) × T (q x)
some-kept {A} q xs h = go (keep q xs) refl h
  where
    go : (ys : List A) → keep q xs ≡ ys → 0 < length ys → (x : A) × (x ∈ xs) × T (q x)
    go [] e l = absurd (omega arith)
    go (y ∷ ys) e l = found (keep_mem q xs (subst (λ (zs : List A). y ∈ zs) (sym e) here))
      where
        found : (y ∈ xs) × T (q y) → (x : A) × (x ∈ xs) × T (q x)
        found w = (y, w.0, w.1)

-- when no test passes there is no first
pub none_first : {A : Type 0} (cs : List (Bool × A)) → T (every (λ c. not c.0) cs) → first_of cs ≡ none
none_first [] t = refl
none_first (c ∷ cs) t =
    ap (λ (x : Bool). cond x (some c.1) (first_of cs))
    (is_false c.0 (and_l (not c.0) (every (λ x. not x.0) cs) t))
    ∙ none_first cs (and_r (not c.0) (every (λ x. not x.0) cs) t)

-- a test on the replies of all stops holds of the first
pub first_passes : {A : Type 0} (p : A → Bool) (cs : List (Bool × A)) → T (every (λ c. p c.1) cs) → (r : A)
    → first_of cs ≡ some r → T (p r)
first_passes {A} p cs t r e = go (first_of-some cs r e)
  where
    go : ((c : Bool × A) × (c ∈ cs) × T c.0 × (c.1 ≡ r)) → T (p r)
    go w = subst (λ (x : A). T (p x)) w.3 (every-at (λ c. p c.1) cs t w.1)

-- neither of two
pub nor_l : (x y : Bool) → T (not (x || y)) → T (not x)
nor_l true y n = n
nor_l false y n = tt

pub nor-r : (x y : Bool) → T (not (x || y)) → T (not y)
nor-r true y n = absurd n
nor-r false y n = n
