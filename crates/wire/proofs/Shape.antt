-- What each test of `is_kind` settles about the shape of the bytes. Assumes nothing.
use Prim.Native.Nat.{ℕ, ◌+◌, ◌-◌, ◌<◌, ◌≤◌}
use native.Mathlib.Omega.{arith}
use mathlib.Core.Path.{◌≡◌, refl, sym}
use mathlib.Core.Bool.{Bool, true, false, ◌&&◌}
use mathlib.Core.List.{List}
use borrow.Author.Tests.{eq-eqb, ne_eqb}
use lib.Dec.{eqb, eqb→eq}
use lib.ListN.{length, get_or}
use Rattle.lists.specs.TestLaws.{same_test}
use Rattle.lists.proofs.ElementLaws.{eq→eqb}
use Rattle.wire.specs.Kinds.{body_by, is_long, shaped}
use Rattle.std.specs.Prelude.{Result, Ok, Err}
use Rattle.std.specs.Result.{result_eq}
use Rattle.wire.specs.declared.Refusal.{Refusal}

and-false : (a b : Bool) → b ≡ false → false ≡ (a && b)
and-false true b e = sym e
and-false false b e = refl

module _ (k : ℕ) (bytes : List ℕ) where
  pub empty : length bytes < 1 → false ≡ shaped k bytes
  unfolding shaped
  empty e = and-false (eqb (get_or bytes 0 0) k) (is_long (body_by k) (length bytes)) (too-short (body_by k))
    where
      too-short : (b : Result ℕ Refusal) → is_long b (length bytes) ≡ false
      too-short (Ok n) = ne_eqb (length bytes) (1 + n) (λ h. omega arith)
      too-short (Err r) = refl

  pub another : (get_or bytes 0 0 ≡ k → ⊥) → eqb (get_or bytes 0 0) k ≡ shaped k bytes
  unfolding shaped
  another h = rw (ne_eqb (get_or bytes 0 0) k h)

  pub settled : (same : Refusal → Refusal → Bool) → 1 ≤ length bytes → get_or bytes 0 0 ≡ k
      → result_eq eqb same (body_by k) (Ok (length bytes - 1)) ≡ shaped k bytes
  unfolding shaped
  settled same h e = rw (eq-eqb (get_or bytes 0 0) k e) (by-length (body_by k))
    where
      by-length : (b : Result ℕ Refusal)
          → result_eq eqb same b (Ok (length bytes - 1)) ≡ is_long b (length bytes)
      by-length (Ok n) =
          same_test (eqb n (length bytes - 1)) (eqb (length bytes) (1 + n))
          (λ t. eq→eqb (length bytes) (1 + n) (omega (arith, eqb→eq n (length bytes - 1) t)))
          (λ t. eq→eqb n (length bytes - 1) (omega (arith, eqb→eq (length bytes) (1 + n) t)))
      by-length (Err r) = refl
