-- Laws of pieces laid out one after the other: which part of the words each is, and what putting other words in its
-- place does.
-- Each holds of a piece by its name. Assumes nothing.
--     piece-lay    the piece of a name
--     put-lay      other words in its place
--     lay-pieces   a slice of the one length is its pieces
--     store-lay    a number stored
--     store-put    a word stored is a part of one word put
--     put-counted  other words in a piece's place, and the number that counts them
use Rattle.std.specs.Prelude.{ℕ, suc, ◌+◌, ◌≤◌, ◌<◌, ◌≡◌, refl, Bool, true, false, cond, eqb, length, get_or, set, take}
use Rattle.std.specs.Prelude.{drop}
use Rattle.std.proofs.Common.{arith, sym, ◌∙◌, eqb-true, length-take, drop-set-lt, get_or-take, get_or-drop, drop-drop}
use Rattle.std.proofs.Math.Path.{ap}
use mathlib.Core.List.{List, [], ◌∷◌, ◌++◌, map}
use Rattle.std.proofs.lemmas.List.{set_split, set-append_left}
use Rattle.std.proofs.Math.Seq.{take-set-lt}
use Rattle.lists.specs.Part.{mid, patch, length-mid}
use Rattle.lists.specs.Pieces.{sum_of, flat-long, all-parts, piece-ends, piece-at, piece-put}
use Rattle.lists.specs.Rows.{flat}
use Rattle.lent.specs.Words.{Name, Screen, Screens, Logged, Taps, Table, Value, Log, Counted, Prompts, Words, tag}
use Rattle.lent.specs.Words.{order, size, sizes, rank_of, rank, from, book_long, piece, number_in, lay}

-- a name stands at its place, each once
pub at_place : {A : Type 0} (f : Name → A) (d : A) (n : Name) → get_or (map f order) (rank n) d ≡ f n
at_place f d Screen = refl
at_place f d Screens = refl
at_place f d Logged = refl
at_place f d Taps = refl
at_place f d Table = refl
at_place f d Value = refl
at_place f d Log = refl
at_place f d Counted = refl
at_place f d Prompts = refl

in_order_lem : (n : Name) → rank n < length order
in_order_lem Screen = omega arith
in_order_lem Screens = omega arith
in_order_lem Logged = omega arith
in_order_lem Taps = omega arith
in_order_lem Table = omega arith
in_order_lem Value = omega arith
in_order_lem Log = omega arith
in_order_lem Counted = omega arith
in_order_lem Prompts = omega arith

-- the words of every piece, with those of one put in their place
abbrev pub put_in : Words → Name → List ℕ → Words
put_in w n y m = cond (eqb (tag m) (tag n)) y (w m)

set-place : (w : Words) (n : Name) (y : List ℕ) → set (map w order) (rank n) y ≡ map (put_in w n y) order
set-place w Screen y = refl
set-place w Screens y = refl
set-place w Logged y = refl
set-place w Taps y = refl
set-place w Table y = refl
set-place w Value y = refl
set-place w Log y = refl
set-place w Counted y = refl
set-place w Prompts y = refl

-- names of one tag are one
same_name : (m n : Name) → tag m ≡ tag n → m ≡ n
same_name m n e =
    sym (at_place (λ k. k) m m) ∙ ap (λ (k : ℕ). get_or (map (λ x. x) order) (rank_of k order) m) e
    ∙ at_place (λ k. k) m n

-- every piece has its length
abbrev pub Laid : Words → Type 0
Laid w = (n : Name) → length (w n) ≡ size n

pub lengths : (w : Words) → Laid w → (ns : List Name) → map length (map w ns) ≡ map size ns
lengths w l [] = refl
lengths w l (n ∷ ns) = ap (λ (k : ℕ). k ∷ map length (map w ns)) (l n)
    ∙ ap (λ (r : List ℕ). size n ∷ r) (lengths w l ns)

pub laid-put : (w : Words) → Laid w → (n : Name) (y : List ℕ) → length y ≡ size n → Laid (put_in w n y)
laid-put w l n y e m = go (eqb (tag m) (tag n)) refl
  where
    go : (c : Bool) → eqb (tag m) (tag n) ≡ c → length (cond c y (w m)) ≡ size m
    go true t = e ∙ ap size (sym (same_name m n (eqb-true (tag m) (tag n) t)))
    go false t = l m

module _ (w : Words) (l : Laid w) (n : Name) where
  pub piece-lay : piece n (lay w) ≡ w n
  unfolding from
  piece-lay =
      ap (λ (k : ℕ). mid (from n) k (lay w)) (sym (at_place size 0 n))
      ∙ piece-at (map w order) sizes (rank n) (lengths w l order) (in_order_lem n)
      ∙ at_place w [] n

  pub put-lay : (y : List ℕ) → patch (from n) (size n) (lay w) y ≡ lay (put_in w n y)
  unfolding from
  put-lay y =
      ap (λ (k : ℕ). patch (from n) k (lay w) y) (sym (at_place size 0 n))
      ∙ piece-put (map w order) sizes (rank n) y (lengths w l order) (in_order_lem n)
      ∙ ap flat (set-place w n y)

-- a slice of the one length is its pieces, each within it
module _ (ws : List ℕ) (e : length ws ≡ book_long) where
  pub lay-pieces : lay (λ n. piece n ws) ≡ ws
  unfolding from book_long
  lay-pieces = all-parts sizes ws e

  pub piece_in : (n : Name) → from n + size n ≤ length ws
  unfolding from book_long
  piece_in n = rw (e, ← at_place size 0 n) (piece-ends sizes (rank n) (in_order_lem n))

  pub piece-long : (n : Name) → length (piece n ws) ≡ size n
  piece-long n = length-mid (from n) (size n) ws (piece_in n)

-- a number that is a piece of one word, as it is read and as it is stored
pub number_word : (ws : List ℕ) (n : Name) → size n ≡ 1 → number_in n ws ≡ get_or ws (from n) 0
unfolding mid
number_word ws n e =
    let h : 0 < size n = omega arith in
    let z : from n + 0 ≡ from n = omega arith in
    get_or-take (size n) (drop (from n) ws) 0 0 h ∙ get_or-drop (from n) ws 0 0 ∙ ap (λ (k : ℕ). get_or ws k 0) z

pub store-put : (xs : List ℕ) (j v : ℕ) → j < length xs → set xs j v ≡ patch j 1 xs (v ∷ [])
unfolding patch
store-put xs j v h =
    let s : suc j ≡ j + 1 = omega arith in
    set_split xs j v h ∙ ap (λ (r : List ℕ). take j xs ++ (v ∷ r))
    (ap (λ (k : ℕ). drop k xs) s ∙ sym (drop-drop 1 j xs))

-- words put in place of a piece, and then a number that stands before it
set-patch : (a k : ℕ) (xs ys : List ℕ) (j v : ℕ) → a ≤ length xs → j < a
    → set (patch a k xs ys) j v ≡ patch a k (set xs j v) ys
unfolding patch
set-patch a k xs ys j v h l =
    let e : j < length (take a xs) = simp length-take (omega arith) in
    set-append_left (take a xs) (ys ++ drop k (drop a xs)) j v e ∙ rw (take-set-lt a xs j v l, drop-set-lt a xs j v l)

module _ (w : Words) (l : Laid w) where
  pub lay-long : length (lay w) ≡ book_long
  unfolding book_long
  lay-long = flat-long (map w order) ∙ ap sum_of (lengths w l order)

  pub store-lay : (k : Name) (v : ℕ) → size k ≡ 1 → set (lay w) (from k) v ≡ lay (put_in w k (v ∷ []))
  store-lay k v e =
      let within : from k < length (lay w) = omega (arith, piece_in (lay w) lay-long k) in
      store-put (lay w) (from k) v within ∙ ap (λ (j : ℕ). patch (from k) j (lay w) (v ∷ [])) (sym e)
      ∙ put-lay w l k (v ∷ [])

  pub put-counted : (n k : Name) (y : List ℕ) (v : ℕ) → size k ≡ 1 → from k < from n
      → set (patch (from n) (size n) (lay w) y) (from k) v ≡ lay (put_in (put_in w k (v ∷ [])) n y)
  put-counted n k y v e f =
      let within : from n ≤ length (lay w) = omega (arith, piece_in (lay w) lay-long n) in
      set-patch (from n) (size n) (lay w) y (from k) v within f
      ∙ ap (λ (r : List ℕ). patch (from n) (size n) r y) (store-lay k v e)
      ∙ put-lay (put_in w k (v ∷ [])) (laid-put w l k (v ∷ []) (sym e)) n y
