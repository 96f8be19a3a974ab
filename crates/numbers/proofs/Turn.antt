-- One turn of the loops over a row of fields, on the lists. Assumes nothing.
use Prim.Native.Nat.{ℕ, suc, ◌+◌, ◌≤◌, ◌<◌, ◌^◌}
use native.Mathlib.Omega.{arith}
use mathlib.Core.Path.{◌≡◌, refl, ap}
use mathlib.Core.Bool.{Bool, false, ◌&&◌, and-false}
use mathlib.Core.List.{List, [], ◌∷◌, ◌++◌, append_assoc, append-nil}
use lib.Dec.{T, leb, ltb, leb→le}
use lib.ListN.{length, take, drop, get_or, set, drop_of_length-le, take-append-drop}
use lib.Seq.{take_all, drop-drop}
use Rattle.std.specs.List.{list_all, zip}
use Rattle.lists.specs.Tests.{every}
use Rattle.lists.specs.TestLaws.{every-get_or}
use Rattle.lists.specs.Scan.{rest, stored_more}
use Rattle.lists.specs.Part.{mid, patch, take-patch, drop_past}
use Rattle.stamp.specs.Stamp.{total}
use Rattle.numbers.specs.Number.{number_of, bytes_of}
use Rattle.numbers.specs.NumberLaws.{length-bytes}
use Rattle.numbers.specs.Fields.{read_fields, write_fields, fields_fit, put_fields}

module _ (ws : List ℕ) (i : ℕ) (h : i < length ws) where
  pub total-rest : total (drop i ws) ≡ get_or ws i 0 + total (drop (i + 1) ws)
  total-rest = ap total (rest ws i h)

  pub narrow : T (every (λ w. leb w 8) ws) → get_or ws i 0 ≤ 8
  narrow t = leb→le (get_or ws i 0) 8 (every-get_or (λ w. leb w 8) ws 0 t i h)

  pub read_more :
      (v bytes : List ℕ) (at x : ℕ) → i < length v → x ≡ number_of (mid at (get_or ws i 0) bytes)
      → take i v ++ read_fields (drop i ws) (drop at bytes)
      ≡ take (i + 1) (set v i x) ++ read_fields (drop (i + 1) ws) (drop (at + get_or ws i 0) bytes)
  unfolding mid
  read_more v bytes at x k e =
      rw (rest ws i h, ← e, drop-drop (get_or ws i 0) at bytes)
      (stored_more (λ _. read_fields (drop (i + 1) ws) (drop (at + get_or ws i 0) bytes)) v i x k)

  pub put-more :
      (v out : List ℕ) (at : ℕ) → i < length v → at + get_or ws i 0 ≤ length out
      → take at out ++ put_fields (drop i ws) (drop i v) (drop at out)
      ≡ take (at + get_or ws i 0) (patch at (get_or ws i 0) out (bytes_of (get_or ws i 0) (get_or v i 0)))
      ++ put_fields (drop (i + 1) ws) (drop (i + 1) v)
      (drop (at + get_or ws i 0) (patch at (get_or ws i 0) out (bytes_of (get_or ws i 0) (get_or v i 0))))
  unfolding put_fields
  put-more v out at k room =
      let w = get_or ws i 0 in
      let long = length-bytes w (get_or v i 0) in
      let new = bytes_of w (get_or v i 0) in
      rw (
        take-patch at w out new room long,
        drop_past at w out new room long (at + w) (omega arith),
        rest ws i h,
        rest v i k,
        append_assoc (take at out) new,
      ) (ap (λ (l : List ℕ). take at out ++ l) tail)
    where
      tail :
          (bytes_of (get_or ws i 0) (get_or v i 0) ++ write_fields (drop (i + 1) ws) (drop (i + 1) v))
          ++ drop (get_or ws i 0 + total (drop (i + 1) ws)) (drop at out)
          ≡ bytes_of (get_or ws i 0) (get_or v i 0)
          ++ (write_fields (drop (i + 1) ws) (drop (i + 1) v)
          ++ drop (total (drop (i + 1) ws)) (drop (at + get_or ws i 0) out))
      tail =
          rw (
            append_assoc,
            ← drop-drop (total (drop (i + 1) ws)) (get_or ws i 0) (drop at out),
            drop-drop (get_or ws i 0) at out,
          )

pub read-end : (ws v bytes : List ℕ) (i at : ℕ) → length ws ≤ i → length v ≡ length ws
    → take i v ++ read_fields (drop i ws) (drop at bytes) ≡ v
read-end ws v bytes i at h e = rw (drop_of_length-le ws h, take_all i v (omega arith)) (append-nil v)

pub put-end : (ws v out : List ℕ) (i at : ℕ) → length ws ≤ i
    → take at out ++ put_fields (drop i ws) (drop i v) (drop at out) ≡ out
unfolding put_fields
put-end ws v out i at h = rw (drop_of_length-le ws h) (take-append-drop at out)

-- what the loops go by
pub ruleset fields_read = (total-rest, narrow, read_more, read-end)

pub ruleset fields_put = (total-rest, put-more, put-end)

-- each number fits beside its width
pub fit_zip : (ws v : List ℕ) → length ws ≡ length v
    → list_all (λ (p : ℕ × ℕ). ltb p.1 (256 ^ p.0)) (zip ws v) ≡ fields_fit ws v
fit_zip [] [] e = refl
fit_zip [] (n ∷ v) e = absurd (omega arith)
fit_zip (w ∷ ws) [] e = absurd (omega arith)
fit_zip (w ∷ ws) (n ∷ v) e = ap (λ (b : Bool). ltb n (256 ^ w) && b) (fit_zip ws v (omega arith))

-- a row of another length does not fit
pub fit_short : (ws v : List ℕ) → (length ws ≡ length v → ⊥) → fields_fit ws v ≡ false
fit_short [] [] n = absurd (n refl)
fit_short [] (x ∷ v) n = refl
fit_short (w ∷ ws) [] n = refl
fit_short (w ∷ ws) (x ∷ v) n = rw (fit_short ws v (λ e. n (ap suc e))) (and-false (ltb x (256 ^ w)))
