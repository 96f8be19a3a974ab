-- Laws of big-endian numbers, over any width: the two round trips, the bounds, and the bytes of a part. Assumes
-- nothing.
use Rattle.std.specs.Prelude.{ℕ, zero, suc, ◌+◌, ◌*◌, ◌/◌, ◌%◌, ◌^◌, ◌<◌}
use Rattle.std.specs.Prelude.{◌≡◌, refl, List, [], ◌∷◌, ◌++◌, length, take}
use Rattle.std.specs.Prelude.{drop}
use Rattle.std.proofs.Common.{pow-suc, suc-add, add-suc, zero-add, add-zero, arith, sym, ap, ◌∙◌, append_assoc}
use Rattle.std.proofs.Common.{append-nil, length-append}
use Rattle.numbers.specs.Number.{number_from, number_of, bytes_of, Bytes}

pub length-bytes : (w n : ℕ) → length (bytes_of w n) ≡ w
unfolding bytes_of
length-bytes zero n = refl
length-bytes (suc w) n =
    length-append (bytes_of w (n / 256)) (n % 256 ∷ []) ∙ rw (length-bytes w (n / 256)) (omega arith)

from_append : (acc : ℕ) (xs ys : List ℕ) → number_from acc (xs ++ ys) ≡ number_from (number_from acc xs) ys
unfolding number_from
from_append acc [] ys = refl
from_append acc (x ∷ xs) ys = from_append (acc * 256 + x) xs ys

pub number-bytes : (w n : ℕ) → n < 256 ^ w → number_of (bytes_of w n) ≡ n
unfolding number_from bytes_of
number-bytes zero n h = omega arith
number-bytes (suc w) n h =
    let l : n / 256 < 256 ^ w = let e = pow-suc 256 w in omega arith in
    from_append 0 (bytes_of w (n / 256)) (n % 256 ∷ []) ∙ rw (number-bytes w (n / 256) l) (omega arith)

bytes-from : (k acc : ℕ) (l : List ℕ) → Bytes l → bytes_of (k + length l) (number_from acc l) ≡ bytes_of k acc ++ l
unfolding number_from bytes_of Bytes
bytes-from k acc [] h = rw (add-zero, append-nil)
bytes-from k acc (x ∷ l) h =
    let q : (acc * 256 + x) / 256 ≡ acc = omega arith in
    let r : (acc * 256 + x) % 256 ≡ x = omega arith in
    ap (λ (w : ℕ). bytes_of w (number_from (acc * 256 + x) l)) (add-suc k (length l) ∙ sym (suc-add k (length l)))
    ∙ bytes-from (suc k) (acc * 256 + x) l h.1 ∙ rw (q, r) (append_assoc (bytes_of k acc) (x ∷ []) l)

pub bytes-number : (l : List ℕ) → Bytes l → bytes_of (length l) (number_of l) ≡ l
unfolding bytes_of
bytes-number l h = rw zero-add at (bytes-from 0 0 l h)

from_small : (k acc : ℕ) (l : List ℕ) → Bytes l → acc < 256 ^ k → number_from acc l < 256 ^ (k + length l)
unfolding number_from Bytes
from_small k acc [] h p = rw add-zero p
from_small k acc (x ∷ l) h p =
    let q : acc * 256 + x < 256 ^ suc k = rw (pow-suc 256 k) (omega arith) in
    rw (add-suc k (length l), ← suc-add k (length l)) (from_small (suc k) (acc * 256 + x) l h.1 q)

pub number_small : (l : List ℕ) → Bytes l → number_of l < 256 ^ length l
number_small l h = rw zero-add at (from_small 0 0 l h (omega arith))

-- bytes of bytes
pub bytes_append : (xs ys : List ℕ) → Bytes xs → Bytes ys → Bytes (xs ++ ys)
unfolding Bytes
bytes_append [] ys h k = k
bytes_append (x ∷ xs) ys h k = (h.0, bytes_append xs ys h.1 k)

pub bytes_are : (w n : ℕ) → Bytes (bytes_of w n)
unfolding bytes_of Bytes
bytes_are zero n = tt
bytes_are (suc w) n = bytes_append (bytes_of w (n / 256)) (n % 256 ∷ []) (bytes_are w (n / 256)) (omega arith, tt)

pub bytes_take : (k : ℕ) (l : List ℕ) → Bytes l → Bytes (take k l)
unfolding Bytes
bytes_take zero l h = tt
bytes_take (suc k) [] h = tt
bytes_take (suc k) (x ∷ l) h = (h.0, bytes_take k l h.1)

pub bytes_drop : (k : ℕ) (l : List ℕ) → Bytes l → Bytes (drop k l)
unfolding Bytes
bytes_drop zero l h = h
bytes_drop (suc k) [] h = tt
bytes_drop (suc k) (x ∷ l) h = bytes_drop k l h.1
