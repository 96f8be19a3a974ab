-- Laws: tests over lists as facts, and facts as tests. Assumes nothing.
use Rattle.std.specs.Prelude.{ℕ, zero, suc, ◌+◌, ◌-◌, ◌≤◌, ◌<◌, ◌≡◌, refl, ◌⊎◌, Bool, true, false, not, ◌&&◌, ◌||◌}
use Rattle.std.specs.Prelude.{cond, T, ltb, length, get_or}
use Rattle.std.proofs.Common.{not-suc-le-zero, arith, sym, ap, subst, ◌∙◌, inl, inr, ltb→lt, nltb→le}
use mathlib.Core.List.Memᴰ
use mathlib.Core.List.{List, [], ◌∷◌, flat_map, Memᴰ}
use Rattle.std.proofs.Math.Option.{none, some}
use Rattle.lists.specs.Tests.{all, all_below, every, exists, keep, first_of}

infix 40 ◌∈◌
abbrev pub ◌∈◌ : {A : Type 0} → A → List A → Type 0
◌∈◌ {A} a l = Memᴰ {0} {A = A} a l

pub either {ℓ ℓ' ℓ''} : {A : Type ℓ} {B : Type ℓ'} {C : Type ℓ''} → A ⊎ B → (A → C) → (B → C) → C
either (inl a) f g = f a
either (inr b) f g = g b

-- a Bool as a fact
pub tell : (b : Bool) → T b ⊎ T (not b)
tell true = inl tt
tell false = inr tt

pub clash : {C : Type 0} (b : Bool) → T b → T (not b) → C
clash true t n = absurd n
clash false t n = absurd t

pub is_true : (b : Bool) → T b → b ≡ true
is_true true t = refl
is_true false t = absurd t

pub is_false : (b : Bool) → T (not b) → b ≡ false
is_false true t = absurd t
is_false false t = refl

pub and_l : (a b : Bool) → T (a && b) → T a
and_l true b t = tt
and_l false b t = t

pub and_r : (a b : Bool) → T (a && b) → T b
and_r true b t = t
and_r false b t = absurd t

pub both : (a b : Bool) → T a → T b → T (a && b)
both true b s t = t
both false b s t = s

pub or_cases : (a b : Bool) → T (a || b) → T a ⊎ T b
or_cases true b t = inl tt
or_cases false b t = inr t

pub or_l : (a b : Bool) → T a → T (a || b)
or_l true b t = tt
or_l false b t = absurd t

pub or_r : (a b : Bool) → T b → T (a || b)
or_r true b t = tt
or_r false b t = t

pub if-then : (a b : Bool) → T (not a || b) → T a → T b
if-then true b t s = t
if-then false b t s = absurd s

pub then_if : (a b : Bool) → (T a → T b) → T (not a || b)
then_if true b f = f tt
then_if false b f = tt

pub not_and : (a b : Bool) → T (not (a && b)) → T a → T (not b)
not_and true b t s = t
not_and false b t s = absurd s

pub not-from : (a : Bool) → (T a → ⊥) → T (not a)
not-from true f = f tt
not-from false f = tt

pub not-not : (a : Bool) → T (not (not a)) → T a
not-not true t = tt
not-not false t = t

pub not_intro : (a : Bool) → T a → T (not (not a))
not_intro true t = tt
not_intro false t = t

-- rules of a list
pub all-at : (cs : List Bool) (k : ℕ) → T (all cs) → T (get_or cs k true)
all-at [] k t = tt
all-at (c ∷ cs) zero t = and_l c (all cs) t
all-at (c ∷ cs) (suc k) t = all-at cs k (and_r c (all cs) t)

infixr 30 ◌also◌
pub data Each : List Bool → Type 0 where
  done : Each []
  ◌also◌ : {c : Bool} {cs : List Bool} → T c → Each cs → Each (c ∷ cs)

pub all_from : {cs : List Bool} → Each cs → T (all cs)
all_from done = tt
all_from (◌also◌ {c} {cs} t e) = both c (all cs) t (all_from e)

-- rules told by name: what follows from all of them takes each by the name it is given, in the list's order
abbrev pub Given : List Bool → Type 0 → Type 0
Given [] R = R
Given (c ∷ cs) R = T c → Given cs R

pub given : {R : Type 0} (cs : List Bool) → T (all cs) → Given cs R → R
given [] t f = f
given (c ∷ cs) t f = given cs (and_r c (all cs) t) (f (and_l c (all cs) t))

-- the tests of stops, none of which holds
abbrev pub Passed : {A : Type 0} → List (Bool × A) → Type 0 → Type 0
Passed [] R = R
Passed (c ∷ cs) R = T (not c.0) → Passed cs R

pub passed : {A R : Type 0} (cs : List (Bool × A)) → T (every (λ c. not c.0) cs) → Passed cs R → R
passed [] t f = f
passed (c ∷ cs) t f =
    let rest : T (every (λ x. not x.0) cs) = and_r (not c.0) (every (λ x. not x.0) cs) t in
    passed cs rest (f (and_l (not c.0) (every (λ x. not x.0) cs) t))

-- tests below a number
pub all_below-at : (n : ℕ) (p : ℕ → Bool) → T (all_below n p) → (k : ℕ) → k < n → T (p k)
all_below-at zero p t k h = absurd (not-suc-le-zero h)
all_below-at (suc n) p t k h =
    either (tell (ltb k n)) (λ l. all_below-at n p (and_r (p n) (all_below n p) t) k (ltb→lt k n l))
    (λ l. subst (λ (j : ℕ). T (p j)) (last l) (and_l (p n) (all_below n p) t))
  where
    last : T (not (ltb k n)) → n ≡ k
    last l = omega (arith, nltb→le k n l)

pub all_below-from : (n : ℕ) (p : ℕ → Bool) → ((k : ℕ) → k < n → T (p k)) → T (all_below n p)
all_below-from zero p f = tt
all_below-from (suc n) p f = both (p n) (all_below n p) (f n (omega arith))
    (all_below-from n p (λ k h. f k (omega arith)))

-- the tests below a number, from the last
pub below_last : (p : ℕ → Bool) (k : ℕ) → 0 < k → all_below k p ≡ (p (k - 1) && all_below (k - 1) p)
below_last p k h =
    let e : k ≡ suc (k - 1) = omega arith in
    ap (λ (j : ℕ). all_below j p) e

abbrev pub bit : Bool → ℕ
bit true = 1
bit false = 0

pub bit_le : (c : Bool) → bit c ≤ 1
bit_le true = omega arith
bit_le false = omega arith

module _ {A : Type 0} where
  pub here : {x : A} {xs : List A} → x ∈ x ∷ xs
  here = Memᴰ.head refl

  pub there : {x y : A} {xs : List A} → x ∈ xs → x ∈ y ∷ xs
  there m = Memᴰ.tail m

  pub none_in : {C : Type 0} {x : A} → x ∈ [] → C
  none_in m = absurd (Memᴰ.not-nil m)

  pub every-at : (p : A → Bool) (xs : List A) → T (every p xs) → {x : A} → x ∈ xs → T (p x)
  every-at p [] t m = none_in m
  every-at p (y ∷ ys) t {x} m =
      either (Memᴰ.cases_cons m) (λ e. subst (λ (z : A). T (p z)) (sym e) (and_l (p y) (every p ys) t))
      (λ m'. every-at p ys (and_r (p y) (every p ys) t) m')

  pub every-from : (p : A → Bool) (xs : List A) → ((x : A) → x ∈ xs → T (p x)) → T (every p xs)
  every-from p [] f = tt
  every-from p (x ∷ xs) f = both (p x) (every p xs) (f x here) (every-from p xs (λ y m. f y (there m)))

  pub exists-at : (p : A → Bool) (xs : List A) → T (exists p xs) → (x : A) × (x ∈ xs) × T (p x)
  exists-at p [] t = absurd t
  exists-at p (x ∷ xs) t = either (or_cases (p x) (exists p xs) t) (λ h. (x, here, h)) (λ h. later (exists-at p xs h))
    where
      later : ((y : A) × (y ∈ xs) × T (p y)) → (y : A) × (y ∈ x ∷ xs) × T (p y)
      later w = (w.0, there w.1, w.2)

  pub exists-from : (p : A → Bool) (xs : List A) {x : A} → x ∈ xs → T (p x) → T (exists p xs)
  exists-from p [] m h = none_in m
  exists-from p (y ∷ ys) m h =
      either (Memᴰ.cases_cons m) (λ e. or_l (p y) (exists p ys) (subst (λ (z : A). T (p z)) e h))
      (λ m'. or_r (p y) (exists p ys) (exists-from p ys m' h))

  -- what is kept
  pub keep_mem : (p : A → Bool) (xs : List A) {y : A} → y ∈ keep p xs → (y ∈ xs) × T (p y)
  keep_mem p [] m = none_in m
  keep_mem p (x ∷ xs) {y} m = go (p x) refl (λ m'. keep_mem p xs m') m
    where
      go : (c : Bool) → p x ≡ c → (y ∈ keep p xs → (y ∈ xs) × T (p y)) → y ∈ cond c (x ∷ keep p xs) (keep p xs)
          → (y ∈ x ∷ xs) × T (p y)
      go true e rec m' = either (Memᴰ.cases_cons m')
          (λ q. (Memᴰ.head q, subst (λ (z : A). T (p z)) (sym q) (subst T (sym e) tt)))
          (λ k. (there (rec k).0, (rec k).1))
      go false e rec m' = (there (rec m').0, (rec m').1)

  pub mem-keep : (p : A → Bool) (xs : List A) {y : A} → y ∈ xs → T (p y) → y ∈ keep p xs
  mem-keep p [] m h = none_in m
  mem-keep p (x ∷ xs) {y} m h = go (p x) refl (λ m'. mem-keep p xs m' h) (Memᴰ.cases_cons m)
    where
      go : (c : Bool) → p x ≡ c → (y ∈ xs → y ∈ keep p xs) → (y ≡ x) ⊎ (y ∈ xs) → y ∈ cond c (x ∷ keep p xs) (keep p xs)
      go true e rec (inl q) = Memᴰ.head q
      go true e rec (inr m') = there (rec m')
      go false e rec (inl q) = absurd (subst T (ap p q ∙ e) h)
      go false e rec (inr m') = rec m'

  pub keep-none : (p : A → Bool) (xs : List A) → ((x : A) → x ∈ xs → p x ≡ false) → keep p xs ≡ []
  keep-none p [] f = refl
  keep-none p (x ∷ xs) f = rw (f x here) (keep-none p xs (λ y m. f y (there m)))

  pub keep-length : (p : A → Bool) (x : A) (xs : List A) → length (keep p (x ∷ xs)) ≡ bit (p x) + length (keep p xs)
  keep-length p x xs = go (p x)
    where
      go : (c : Bool) → length (cond c (x ∷ keep p xs) (keep p xs)) ≡ bit c + length (keep p xs)
      go true = omega arith
      go false = omega arith

  pub keep_le : (p : A → Bool) (xs : List A) → length (keep p xs) ≤ length xs
  keep_le p [] = omega arith
  keep_le p (x ∷ xs) = omega (arith, keep-length p x xs, keep_le p xs, bit_le (p x))

  pub keep-keep_le : (p q : A → Bool) (xs : List A) → length (keep p (keep q xs)) ≤ length (keep p xs)
  keep-keep_le p q [] = omega arith
  keep-keep_le p q (x ∷ xs) = go (q x) (keep-keep_le p q xs)
    where
      go : (c : Bool) → length (keep p (keep q xs)) ≤ length (keep p xs)
          → length (keep p (cond c (x ∷ keep q xs) (keep q xs))) ≤ length (keep p (x ∷ xs))
      go true h = omega (arith, keep-length p x (keep q xs), keep-length p x xs)
      go false h = omega (arith, keep-length p x xs)

  -- two tests that share a third one's places
  pub keep_share : (p q r : A → Bool) (xs : List A) → ((x : A) → x ∈ xs → bit (p x) + bit (q x) ≤ bit (r x))
      → length (keep p xs) + length (keep q xs) ≤ length (keep r xs)
  keep_share p q r [] f = omega arith
  keep_share p q r (x ∷ xs) f =
      omega (
        arith,
        keep-length p x xs,
        keep-length q x xs,
        keep-length r x xs,
        f x here,
        keep_share p q r xs (λ y m. f y (there m)),
      )

  pub keep_all : (xs : List A) → length (keep (λ x. true) xs) ≡ length xs
  keep_all [] = refl
  keep_all (x ∷ xs) = ap suc (keep_all xs)

module _ {A : Type 0} where
  -- the first test that passes
  pub first_of-none : (cs : List (Bool × A)) → first_of cs ≡ none → T (every (λ c. not c.0) cs)
  first_of-none [] e = tt
  first_of-none (c ∷ cs) e = go c.0 (λ e'. first_of-none cs e') e
    where
      go : (d : Bool) → (first_of cs ≡ none → T (every (λ x. not x.0) cs)) → cond d (some c.1) (first_of cs) ≡ none
          → T (not d && every (λ x. not x.0) cs)
      go true rec e' = let z : ◌≡◌ {A = ℕ} 0 1 = cc in omega arith
      go false rec e' = rec e'

  pub first_of-some : (cs : List (Bool × A)) (r : A) → first_of cs ≡ some r
      → (c : Bool × A) × (c ∈ cs) × T c.0 × (c.1 ≡ r)
  first_of-some [] r e = let z : ◌≡◌ {A = ℕ} 0 1 = cc in absurd (omega arith)
  first_of-some (c ∷ cs) r e = go c.0 refl (λ e'. first_of-some cs r e') e
    where
      go : (d : Bool) → c.0 ≡ d → (first_of cs ≡ some r → (c : Bool × A) × (c ∈ cs) × T c.0 × (c.1 ≡ r))
          → cond d (some c.1) (first_of cs) ≡ some r → (x : Bool × A) × (x ∈ c ∷ cs) × T x.0 × (x.1 ≡ r)
      go true q rec e' = (c, here, subst T (sym q) tt, cc)
      go false q rec e' = ((rec e').0, there (rec e').1, (rec e').2, (rec e').3)

module _ {A B : Type 0} (f : A → List B) where
  pub flat_map_mem : (xs : List A) {y : B} → y ∈ flat_map f xs → (x : A) × (x ∈ xs) × (y ∈ f x)
  unfolding flat_map
  flat_map_mem [] m = none_in m
  flat_map_mem (x ∷ xs) {y} m =
      either (Memᴰ.append_cases (f x) m) (λ h. (x, here, h)) (λ h. later (flat_map_mem xs h))
    where
      later : ((z : A) × (z ∈ xs) × (y ∈ f z)) → (z : A) × (z ∈ x ∷ xs) × (y ∈ f z)
      later w = (w.0, there w.1, w.2)

  pub mem-flat_map : (xs : List A) {x : A} {y : B} → x ∈ xs → y ∈ f x → y ∈ flat_map f xs
  unfolding flat_map
  mem-flat_map [] m h = none_in m
  mem-flat_map (z ∷ zs) {x} {y} m h =
      either (Memᴰ.cases_cons m) (λ e. Memᴰ.append_left (flat_map f zs) (subst (λ (u : A). y ∈ f u) e h))
      (λ m'. Memᴰ.append_right (f z) (mem-flat_map zs m' h))

-- tests over a list by its places
pub every-place : {A : Type 0} (p : A → Bool) (xs : List A) (d : A) → T (every p xs) → T (p d) → (k : ℕ)
    → T (p (get_or xs k d))
every-place p [] d t u k = u
every-place p (x ∷ xs) d t u zero = and_l (p x) (every p xs) t
every-place p (x ∷ xs) d t u (suc k) = every-place p xs d (and_r (p x) (every p xs) t) u k

pub get_or_in : {A : Type 0} (xs : List A) (k : ℕ) (d : A) → k < length xs → get_or xs k d ∈ xs
get_or_in [] k d h = absurd (omega arith)
get_or_in (x ∷ xs) zero d h = here
get_or_in (x ∷ xs) (suc k) d h = there (get_or_in xs k d (omega arith))

pub every-get_or : {A : Type 0} (p : A → Bool) (xs : List A) (d : A) → T (every p xs) → (k : ℕ) → k < length xs
    → T (p (get_or xs k d))
every-get_or p xs d t k h = every-at p xs t (get_or_in xs k d h)

pub get_or-every : {A : Type 0} (p : A → Bool) (xs : List A) (d : A) → ((k : ℕ) → k < length xs → T (p (get_or xs k d)))
    → T (every p xs)
get_or-every p [] d f = tt
get_or-every p (x ∷ xs) d f =
    both (p x) (every p xs) (f 0 (omega arith)) (get_or-every p xs d (λ k h. f (suc k) (omega arith)))

-- two tests that pass together are one
pub same_test : (a b : Bool) → (T a → T b) → (T b → T a) → a ≡ b
same_test true true f g = refl
same_test true false f g = absurd (f tt)
same_test false true f g = absurd (g tt)
same_test false false f g = refl
