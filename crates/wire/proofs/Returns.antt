-- Laws: what a reader's and a writer's tests have settled where it returns, for every kind. Assumes nothing.
use Rattle.std.specs.Prelude.{ℕ, suc, ◌+◌, ◌^◌, ◌≡◌, refl, Bool, true, false, not, ◌&&◌, cond, List, [], ◌∷◌, T, ltb}
use Rattle.std.specs.Prelude.{eqb, length, get_or, Ok, Err}
use Rattle.std.proofs.Common.{arith, sym, ap, ◌∙◌, eq-eqb, eqb-true}
use Rattle.std.proofs.Math.Bool.{and-true, and-false}
use Rattle.std.proofs.lemmas.Bool.{not-true, not-false}
use Rattle.lists.specs.TestLaws.{and_r}
use Rattle.numbers.specs.Fields.{read_fields, fields_fit, put_fields}
use Rattle.wire.specs.declared.Refusal.{Refusal}
use Rattle.wire.specs.declared.Refusal.TheVariants.{Bad}
use Rattle.wire.specs.Kinds.{Kind, widths, body_by, is_long, shaped}
use Rattle.wire.specs.Read.{line_of, line_as, readable, read_as}
use Rattle.wire.specs.Write.{Written, Output, Meets, put_line, writable, written, write_as}

-- what a test of a call's answer tells of what the call promises
pub failed : {answer t : Bool} → answer ≡ t → not answer ≡ true → t ≡ false
failed {answer} e h = sym e ∙ not-true answer h

pub passed : {answer t : Bool} → answer ≡ t → not answer ≡ false → t ≡ true
passed {answer} e h = sym e ∙ not-false answer h

-- bytes of a kind have its length
pub shaped-long : (k n : ℕ) (bytes : List ℕ) → body_by k ≡ Ok n → shaped k bytes ≡ true → length bytes ≡ 1 + n
unfolding shaped
shaped-long k n bytes b e =
    eqb-true (length bytes) (1 + n)
    (tested (eqb (get_or bytes 0 0) k) (eqb (length bytes) (1 + n))
    (ap (λ x. eqb (get_or bytes 0 0) k && is_long x (length bytes)) (sym b) ∙ e))
  where
    tested : (p q : Bool) → (p && q) ≡ true → q ≡ true
    tested true q h = h
    tested false q h = cc

-- a line that was read, and one that was not
pub line-told : (k : ℕ) (ws bytes line : List ℕ) → Ok line ≡ line_as k ws bytes
    → (shaped k bytes ≡ true) × (line ≡ read_fields ws bytes)
unfolding line_as
line-told k ws bytes line = go (shaped k bytes)
  where
    go : (c : Bool) → Ok line ≡ cond c (Ok (read_fields ws bytes)) (Err Bad)
        → (c ≡ true) × (line ≡ read_fields ws bytes)
    go true e = (refl, cc)
    go false e = let z : ◌≡◌ {A = ℕ} 0 1 = cc in absurd (omega arith)

pub line-refused : (k : ℕ) (ws bytes : List ℕ) (r : Refusal) → Err r ≡ line_as k ws bytes
    → (shaped k bytes ≡ false) × (r ≡ Bad)
unfolding line_as
line-refused k ws bytes r = go (shaped k bytes)
  where
    go : (c : Bool) → Err r ≡ cond c (Ok (read_fields ws bytes)) (Err Bad) → (c ≡ false) × (r ≡ Bad)
    go true e = let z : ◌≡◌ {A = ℕ} 0 1 = cc in absurd (omega arith)
    go false e = (refl, cc)

-- as many values as widths
pub fit_length : (ws vs : List ℕ) → T (fields_fit ws vs) → length vs ≡ length ws
fit_length [] [] t = refl
fit_length [] (v ∷ vs) t = absurd t
fit_length (w ∷ ws) [] t = absurd t
fit_length (w ∷ ws) (v ∷ vs) t = ap suc (fit_length ws vs (and_r (ltb v (256 ^ w)) (fields_fit ws vs) t))

module _ (k : Kind) (bytes : List ℕ) where
  pub not-shaped : shaped k.number bytes ≡ false → Err Bad ≡ read_as k bytes
  unfolding read_as readable
  not-shaped e = rw e

  -- past the shape, with the line that was read
  module _ (line : List ℕ) (shape : shaped k.number bytes ≡ true) (same : line ≡ line_of k bytes) where
    pub not-kept : k.rules line ≡ false → Err Bad ≡ read_as k bytes
    unfolding read_as readable
    not-kept r = rw (shape, ← same, r)

    pub kept : k.rules line ≡ true → Ok (k.said line) ≡ read_as k bytes
    unfolding read_as readable
    kept r = rw (shape, ← same, r)

pub meets : {o : Output} (answer : Written) (bytes : List ℕ) → o ≡ record { answer = answer; bytes = bytes }
    → Meets o answer bytes
meets answer bytes e = record
    { answers = ap (λ (o : Output). o.answer) (sym e); leaves = ap (λ (o : Output). o.bytes) (sym e) }

module _ (k : Kind) (line out : List ℕ) (numbered : get_or line 0 0 ≡ k.number) where
  pub broken : k.rules line ≡ false → Meets (write_as k line out) (Err Bad) out
  unfolding write_as writable
  broken e = meets (Err Bad) out
      (rw (eq-eqb (get_or line 0 0) k.number numbered, e, and-false (fields_fit (widths k) line)))

  pub put : (answer : Written) (bytes : List ℕ) → k.rules line ≡ true
      → Meets (put_line (widths k) line out) answer bytes → Meets (write_as k line out) answer bytes
  unfolding write_as writable written put_line put_fields
  put answer bytes e m = rw (eq-eqb (get_or line 0 0) k.number numbered, e, and-true (fields_fit (widths k) line)) m
