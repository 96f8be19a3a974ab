-- Laws: lists kept in strictly rising order of a key: what inserting does, and that the members settle the list.
-- Assumes nothing.
use Rattle.std.specs.Prelude.{ℕ, ◌+◌, ◌≤◌, ◌<◌, ◌≡◌, refl, ◌⊎◌, Bool, true, false, not, ◌&&◌, cond, List, [], ◌∷◌, map}
use Rattle.std.specs.Prelude.{T, ltb, eqb, length}
use Rattle.std.proofs.Common.{arith, sym, ap, ap₂, subst, ◌∙◌, inl, inr, ltb→lt, lt→ltb, eqb→eq, nltb→le}
use mathlib.Core.List.Memᴰ
use Rattle.std.proofs.Math.Dec.{eqb_refl}
use Rattle.lists.specs.Tests.{every, keep}
use Rattle.lists.specs.Order.{same_key, key_before, rising, insert, insert_all}
use Rattle.lists.specs.TestLaws.{◌∈◌, either, clash, and_l, and_r, both, or_cases, or_l, or_r, not-from, is_true}
use Rattle.lists.specs.TestLaws.{is_false, here, there, none_in, every-at, every-from, keep_mem, keep-length}
use Rattle.lists.specs.TestLaws.{bit_le}

-- keys
pub same_key→≡ : (a b : List ℕ) → T (same_key a b) → a ≡ b
same_key→≡ [] [] t = refl
same_key→≡ [] (y ∷ b) t = absurd t
same_key→≡ (x ∷ a) [] t = absurd t
same_key→≡ (x ∷ a) (y ∷ b) t =
    ap₂ ◌∷◌ (eqb→eq x y (and_l (eqb x y) (same_key a b) t)) (same_key→≡ a b (and_r (eqb x y) (same_key a b) t))

pub same_key-refl : (a : List ℕ) → T (same_key a a)
same_key-refl [] = tt
same_key-refl (x ∷ a) = both (eqb x x) (same_key a a) (eqb_refl x) (same_key-refl a)

pub before_cons : (x y : ℕ) (a b : List ℕ) → T (key_before (x ∷ a) (y ∷ b)) → (x < y) ⊎ ((x ≡ y) × T (key_before a b))
before_cons x y a b t =
    either (or_cases (ltb x y) (eqb x y && key_before a b) t) (λ l. inl (ltb→lt x y l))
    (λ r. inr (eqb→eq x y (and_l (eqb x y) (key_before a b) r), and_r (eqb x y) (key_before a b) r))

before_lt : (x y : ℕ) (a b : List ℕ) → x < y → T (key_before (x ∷ a) (y ∷ b))
before_lt x y a b h = or_l (ltb x y) (eqb x y && key_before a b) (lt→ltb x y h)

before_eq : (x y : ℕ) (a b : List ℕ) → x ≡ y → T (key_before a b) → T (key_before (x ∷ a) (y ∷ b))
before_eq x y a b e h =
    or_r (ltb x y) (eqb x y && key_before a b)
    (both (eqb x y) (key_before a b) (subst (λ (z : ℕ). T (eqb x z)) e (eqb_refl x)) h)

pub before_irrefl : (a : List ℕ) → T (key_before a a) → ⊥
before_irrefl [] t = t
before_irrefl (x ∷ a) t = either (before_cons x x a a t) (λ h. omega arith) (λ h. before_irrefl a h.1)

pub before_trans : (a b c : List ℕ) → T (key_before a b) → T (key_before b c) → T (key_before a c)
before_trans [] [] c s t = absurd s
before_trans [] (y ∷ b) [] s t = absurd t
before_trans [] (y ∷ b) (z ∷ c) s t = tt
before_trans (x ∷ a) [] c s t = absurd s
before_trans (x ∷ a) (y ∷ b) [] s t = absurd t
before_trans (x ∷ a) (y ∷ b) (z ∷ c) s t =
    either (before_cons x y a b s)
    (λ h. either (before_cons y z b c t) (λ k. before_lt x z a c (omega arith))
    (λ k. before_lt x z a c (omega (arith, k.0))))
    (λ h. either (before_cons y z b c t) (λ k. before_lt x z a c (omega (arith, h.0)))
    (λ k. before_eq x z a c (h.0 ∙ k.0) (before_trans a b c h.1 k.1)))

pub before-total : (a b : List ℕ) → T (not (key_before a b)) → T (not (key_before b a)) → a ≡ b
before-total [] [] s t = refl
before-total [] (y ∷ b) s t = absurd s
before-total (x ∷ a) [] s t = absurd t
before-total (x ∷ a) (y ∷ b) s t = ap₂ ◌∷◌ heads (before-total a b (tails a b heads s) (tails' heads t))
  where
    heads : x ≡ y
    heads =
        let h : y ≤ x = nltb→le x y
        (not-from (ltb x y) (λ u. clash (key_before (x ∷ a) (y ∷ b)) (before_lt x y a b (ltb→lt x y u)) s)) in
        let k : x ≤ y = nltb→le y x
        (not-from (ltb y x) (λ u. clash (key_before (y ∷ b) (x ∷ a)) (before_lt y x b a (ltb→lt y x u)) t)) in
        omega arith

    tails : (c d : List ℕ) → x ≡ y → T (not (key_before (x ∷ c) (y ∷ d))) → T (not (key_before c d))
    tails c d e n = not-from (key_before c d) (λ u. clash (key_before (x ∷ c) (y ∷ d)) (before_eq x y c d e u) n)

    tails' : x ≡ y → T (not (key_before (y ∷ b) (x ∷ a))) → T (not (key_before b a))
    tails' e n = not-from (key_before b a) (λ u. clash (key_before (y ∷ b) (x ∷ a)) (before_eq y x b a (sym e) u) n)

module _ {A : Type 0} (key : A → List ℕ) where
  -- what becomes of a list when xs is put into it
  pub record Put (new : List A) (old out : List A) : Type 0 where
    pub from : (z : A) → z ∈ out → (z ∈ new) ⊎ (z ∈ old)
    pub stays : (z : A) → z ∈ old → z ∈ out
    pub has : (x : A) → x ∈ new → (z : A) × (z ∈ out) × (key z ≡ key x)
    pub order : T (rising key old) → T (rising key out)
    pub size : (p : A → Bool) → length (keep p out) ≤ length new + length (keep p old)
    pub long : length out ≤ length new + length old

  pub head-before : (x : A) (xs : List A) → T (rising key (x ∷ xs)) → {z : A} → z ∈ xs → T (key_before (key x) (key z))
  head-before x xs t m = every-at (λ y. key_before (key x) (key y)) xs
      (and_l (every (λ y. key_before (key x) (key y)) xs) (rising key xs) t) m

  pub tail-rising : (x : A) (xs : List A) → T (rising key (x ∷ xs)) → T (rising key xs)
  tail-rising x xs t = and_r (every (λ y. key_before (key x) (key y)) xs) (rising key xs) t

  cons-rising : (x : A) (xs : List A) → ((z : A) → z ∈ xs → T (key_before (key x) (key z))) → T (rising key xs)
      → T (rising key (x ∷ xs))
  cons-rising x xs f t = both (every (λ y. key_before (key x) (key y)) xs) (rising key xs)
      (every-from (λ y. key_before (key x) (key y)) xs f) t

  put_one : (x : A) (ys : List A) → Put (x ∷ []) ys (insert key x ys)
  put_one x [] =
      record {
        from = λ z m. inl m;
        stays = λ z m. none_in m;
        has = λ z m. (z, m, refl);
        order = λ t. tt;
        size = λ p. omega (arith, keep-length p x [], bit_le (p x));
        long = omega arith;
      }
  put_one x (y ∷ ys) = go (key_before (key x) (key y)) refl (key_before (key y) (key x)) refl (put_one x ys)
    where
      go :
          (c : Bool) → key_before (key x) (key y) ≡ c → (d : Bool) → key_before (key y) (key x) ≡ d
          → Put (x ∷ []) ys (insert key x ys)
          → Put (x ∷ []) (y ∷ ys) (cond c (x ∷ y ∷ ys) (cond d (y ∷ insert key x ys) (y ∷ ys)))
      go true e d e' rec =
          record {
            from = λ z m. either (Memᴰ.cases_cons m) (λ q. inl (Memᴰ.head q)) (λ m'. inr m');
            stays = λ z m. there m;
            has = λ z m. (x, here, ap key (either (Memᴰ.cases_cons m) (λ q. sym q) (λ m'. none_in m')));
            order = λ t.
                cons-rising x (y ∷ ys)
                (λ z m.
                either (Memᴰ.cases_cons m)
                (λ q. subst (λ (w : A). T (key_before (key x) (key w))) (sym q) (subst T (sym e) tt))
                (λ m'. before_trans (key x) (key y) (key z) (subst T (sym e) tt) (head-before y ys t m')))
                t;
            size = λ p. omega (arith, keep-length p x (y ∷ ys), bit_le (p x));
            long = omega arith;
          }
      go false e true e' rec =
          record {
            from = λ z m. either (Memᴰ.cases_cons m) (λ q. inr (Memᴰ.head q))
                (λ m'. either (rec.from z m') (λ n. inl n) (λ n. inr (there n)));
            stays = λ z m. either (Memᴰ.cases_cons m) (λ q. Memᴰ.head q) (λ m'. there (rec.stays z m'));
            has = λ z m. ((rec.has z m).0, there (rec.has z m).1, (rec.has z m).2);
            order = λ t.
                cons-rising y (insert key x ys)
                (λ z m.
                either (rec.from z m)
                (λ n. subst (λ (w : A). T (key_before (key y) (key w)))
                (sym (either (Memᴰ.cases_cons n) (λ q. q) (λ m'. none_in m'))) (subst T (sym e') tt))
                (λ n. head-before y ys t n))
                (rec.order (tail-rising y ys t));
            size = λ p. omega (arith, keep-length p y (insert key x ys), keep-length p y ys, rec.size p);
            long = omega (arith, rec.long);
          }
      go false e false e' rec =
          record {
            from = λ z m. inr m;
            stays = λ z m. m;
            has = λ z m. (
              y,
              here,
              sym
                  (before-total (key x) (key y) (subst (λ (c : Bool). T (not c)) (sym e) tt)
                  (subst (λ (c : Bool). T (not c)) (sym e') tt))
                  ∙ ap key (either (Memᴰ.cases_cons m) (λ q. sym q) (λ m'. none_in m')),
            );
            order = λ t. t;
            size = λ p. omega arith;
            long = omega arith;
          }

  pub put_all : (xs ys : List A) → Put xs ys (insert_all key xs ys)
  put_all [] ys = record {
    from = λ z m. inr m;
    stays = λ z m. m;
    has = λ z m. none_in m;
    order = λ t. t;
    size = λ p. omega arith;
    long = omega arith;
  }
  put_all (x ∷ xs) ys = join (put_all xs ys) (put_one x (insert_all key xs ys))
    where
      join : Put xs ys (insert_all key xs ys)
          → Put (x ∷ []) (insert_all key xs ys) (insert key x (insert_all key xs ys))
          → Put (x ∷ xs) ys (insert key x (insert_all key xs ys))
      join a b =
          record {
            from = λ z m. either (b.from z m)
                (λ n. inl (either (Memᴰ.cases_cons n) (λ q. Memᴰ.head q) (λ k. none_in k)))
                (λ n. either (a.from z n) (λ k. inl (there k)) (λ k. inr k));
            stays = λ z m. b.stays z (a.stays z m);
            has = λ z m. either (Memᴰ.cases_cons m) (λ q. b.has z (Memᴰ.head q))
                (λ m'. ((a.has z m').0, b.stays (a.has z m').0 (a.has z m').1, (a.has z m').2));
            order = λ t. b.order (a.order t);
            size = λ p. omega (arith, a.size p, b.size p);
            long = omega (arith, a.long, b.long);
          }

  pub keep-rising : (p : A → Bool) (xs : List A) → T (rising key xs) → T (rising key (keep p xs))
  keep-rising p [] t = tt
  keep-rising p (x ∷ xs) t = go (p x) (keep-rising p xs (tail-rising x xs t))
    where
      go : (c : Bool) → T (rising key (keep p xs)) → T (rising key (cond c (x ∷ keep p xs) (keep p xs)))
      go true r = cons-rising x (keep p xs) (λ z m. head-before x xs t (keep_mem p xs m).0) r
      go false r = r

  -- one key, one element
  pub rising-one : (xs : List A) → T (rising key xs) → {x y : A} → x ∈ xs → y ∈ xs → key x ≡ key y → x ≡ y
  rising-one [] t m n e = none_in m
  rising-one (z ∷ zs) t {x} {y} m n e =
      go (Memᴰ.cases_cons m) (Memᴰ.cases_cons n) (λ i j. rising-one zs (tail-rising z zs t) i j e)
    where
      go : (x ≡ z) ⊎ (x ∈ zs) → (y ≡ z) ⊎ (y ∈ zs) → (x ∈ zs → y ∈ zs → x ≡ y) → x ≡ y
      go (inl p) (inl q) rec = p ∙ sym q
      go (inl p) (inr j) rec =
          absurd (before_irrefl (key y)
          (subst (λ (k : List ℕ). T (key_before k (key y))) (ap key (sym p) ∙ e) (head-before z zs t j)))
      go (inr i) (inl q) rec =
          absurd (before_irrefl (key x)
          (subst (λ (k : List ℕ). T (key_before k (key x))) (ap key (sym q) ∙ sym e) (head-before z zs t i)))
      go (inr i) (inr j) rec = rec i j

  -- two rising lists with the same members are one
  pub rising-same :
      (xs ys : List A) → T (rising key xs) → T (rising key ys) → ((z : A) → z ∈ xs → z ∈ ys)
      → ((z : A) → z ∈ ys → z ∈ xs) → xs ≡ ys
  rising-same [] [] s t f g = refl
  rising-same [] (y ∷ ys) s t f g = none_in (g y here)
  rising-same (x ∷ xs) [] s t f g = none_in (f x here)
  rising-same (x ∷ xs) (y ∷ ys) s t f g =
      ap₂ ◌∷◌ heads (rising-same xs ys (tail-rising x xs s) (tail-rising y ys t)
      (λ z m. over z m (Memᴰ.cases_cons (f z (there m))))
      (λ z m. back z m (Memᴰ.cases_cons (g z (there m)))))
    where
      heads : x ≡ y
      heads =
          either (Memᴰ.cases_cons (f x here)) (λ e. e)
          (λ m. either (Memᴰ.cases_cons (g y here)) (λ e. sym e)
          (λ n. absurd (before_irrefl (key x)
          (before_trans (key x) (key y) (key x) (head-before x xs s n) (head-before y ys t m)))))

      over : (z : A) → z ∈ xs → (z ≡ y) ⊎ (z ∈ ys) → z ∈ ys
      over z m (inl e) = absurd
          (before_irrefl (key x) (subst (λ (w : A). T (key_before (key x) (key w))) (e ∙ sym heads)
          (head-before x xs s m)))
      over z m (inr n) = n

      back : (z : A) → z ∈ ys → (z ≡ x) ⊎ (z ∈ xs) → z ∈ xs
      back z m (inl e) = absurd
          (before_irrefl (key y) (subst (λ (w : A). T (key_before (key y) (key w))) (e ∙ heads) (head-before y ys t m)))
      back z m (inr n) = n

  -- what is there stays as it is
  pub insert-same : (t : A) (ts : List A) → T (rising key ts) → t ∈ ts → insert key t ts ≡ ts
  insert-same t [] o m = none_in m
  insert-same t (y ∷ ys) o m = go (Memᴰ.cases_cons m) (λ n. insert-same t ys (tail-rising y ys o) n)
    where
      step : (c d : Bool) → key_before (key t) (key y) ≡ c → key_before (key y) (key t) ≡ d
          → insert key t (y ∷ ys) ≡ cond c (t ∷ y ∷ ys) (cond d (y ∷ insert key t ys) (y ∷ ys))
      step c d e f = ap₂ (λ (a b : Bool). cond a (t ∷ y ∷ ys) (cond b (y ∷ insert key t ys) (y ∷ ys))) e f

      never : T (key_before (key y) (key t)) → T (not (key_before (key t) (key y)))
      never h = not-from (key_before (key t) (key y))
          (λ k. before_irrefl (key t) (before_trans (key t) (key y) (key t) k h))

      go : (t ≡ y) ⊎ (t ∈ ys) → (t ∈ ys → insert key t ys ≡ ys) → insert key t (y ∷ ys) ≡ y ∷ ys
      go (inl e) rec =
          step false false
          (is_false (key_before (key t) (key y))
          (not-from (key_before (key t) (key y))
          (λ k. before_irrefl (key t) (subst (λ (w : A). T (key_before (key t) (key w))) (sym e) k))))
          (is_false (key_before (key y) (key t))
          (not-from (key_before (key y) (key t))
          (λ k. before_irrefl (key t) (subst (λ (w : A). T (key_before (key w) (key t))) (sym e) k))))
      go (inr n) rec =
          step false true (is_false (key_before (key t) (key y)) (never (head-before y ys o n)))
          (is_true (key_before (key y) (key t)) (head-before y ys o n)) ∙ ap (λ (l : List A). y ∷ l) (rec n)

-- the same over another form of the elements: raw cells of a slice, and the records or taps that they hold
module _ {A B : Type 0} (f : A → B) where
  pub map-insert :
      (key_a : A → List ℕ) (key_b : B → List ℕ) → ((a : A) → key_b (f a) ≡ key_a a) → (x : A) (xs : List A)
      → map f (insert key_a x xs) ≡ insert key_b (f x) (map f xs)
  map-insert key_a key_b e x [] = refl
  map-insert key_a key_b e x (y ∷ ys) =
      go (key_before (key_a x) (key_a y)) (key_before (key_a y) (key_a x))
      ∙ ap₂ (λ (c d : Bool). cond c (f x ∷ f y ∷ map f ys) (cond d (f y ∷ map f (insert key_a x ys)) (f y ∷ map f ys)))
      (ap₂ key_before (sym (e x)) (sym (e y))) (ap₂ key_before (sym (e y)) (sym (e x)))
      ∙ ap (λ (l : List B). cond (key_before (key_b (f x)) (key_b (f y))) (f x ∷ f y ∷ map f ys)
      (cond (key_before (key_b (f y)) (key_b (f x))) (f y ∷ l) (f y ∷ map f ys))) (map-insert key_a key_b e x ys)
    where
      go :
          (c d : Bool)
          → map f (cond c (x ∷ y ∷ ys) (cond d (y ∷ insert key_a x ys) (y ∷ ys)))
          ≡ cond c (f x ∷ f y ∷ map f ys) (cond d (f y ∷ map f (insert key_a x ys)) (f y ∷ map f ys))
      go true d = refl
      go false true = refl
      go false false = refl

  pub map-keep : (p : B → Bool) (xs : List A) → map f (keep (λ x. p (f x)) xs) ≡ keep p (map f xs)
  map-keep p [] = refl
  map-keep p (x ∷ xs) = go (p (f x)) ∙ ap (λ (l : List B). cond (p (f x)) (f x ∷ l) l) (map-keep p xs)
    where
      go : (c : Bool) → map f (cond c (x ∷ keep (λ y. p (f y)) xs) (keep (λ y. p (f y)) xs))
          ≡ cond c (f x ∷ map f (keep (λ y. p (f y)) xs)) (map f (keep (λ y. p (f y)) xs))
      go true = refl
      go false = refl
