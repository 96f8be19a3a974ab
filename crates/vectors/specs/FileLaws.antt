-- Laws of the file of vectors. Assumes nothing.
--     field-short, field-long, field_past, field-stands
--                     what a field comes to, test by test
--     field_within    a field that stands lies behind the bytes that tell its length, and within the file
--     entry_unnamed, entry-end, entry-unasked, entry-unanswered, entry_whole
--                     what an entry comes to, field by field
--     entry-within    and so do a vector's three, one behind the other
use Prim.Native.Nat.{ℕ, ◌+◌, ◌-◌, ◌≤◌, ◌<◌}
use Rattle.std.proofs.Common.{arith, subst}
use Rattle.std.specs.Prelude.{◌≡◌, Bool, true, false, cond, List, eqb, ltb, length, Some, None, Ok, Err}
use Rattle.std.proofs.Math.Path.{refl}
use borrow.Author.Tests.{ltb-false, lt-ltb, le-ltb, eq-eqb, ne_eqb}
use Rattle.lists.specs.Part.{mid}
use Rattle.numbers.specs.Number.{number_of}
use Rattle.vectors.specs.File.{Inside, longest_field, Field, broken, field_at, NextVector, cut, on_field, entry_at}
use Rattle.vectors.specs.declared.file.Part.{Part}
use Rattle.vectors.specs.declared.file.Vector.{Vector}

-- what a field comes to, test by test
module _ (at width : ℕ) (file : List ℕ) where
  pub field-short : length file - at < width → broken ≡ field_at at width file
  unfolding field_at
  field-short h = rw (lt-ltb (length file - at) width h)

  module _ (h : width ≤ length file - at) (long : ℕ) (e : long ≡ number_of (mid at width file)) where
    pub field-long : longest_field < long → broken ≡ field_at at width file
    unfolding field_at
    field-long l = rw (le-ltb (length file - at) width h, ← e, lt-ltb longest_field long l)

    pub field_past : long ≤ longest_field → length file - (at + width) < long → broken ≡ field_at at width file
    unfolding field_at
    field_past l p =
        let past = lt-ltb (length file - (at + width)) long p in
        rw (le-ltb (length file - at) width h, ← e, le-ltb longest_field long l, past)

    pub field-stands : long ≤ longest_field → long ≤ length file - (at + width)
        → Ok (record { start = at + width; end = at + width + long }) ≡ field_at at width file
    unfolding field_at
    field-stands l p =
        let ends = le-ltb (length file - (at + width)) long p in
        rw (le-ltb (length file - at) width h, ← e, le-ltb longest_field long l, ends)

  pub field_within : at ≤ length file → (p : Part) → field_at at width file ≡ Ok p
      → (at + width ≤ p.start) × Inside p file
  unfolding field_at
  field_within h p =
      go (ltb (length file - at) width) refl (ltb longest_field long) (ltb (length file - (at + width)) long) refl
    where
      long : ℕ
      long = number_of (mid at width file)

      go : (a : Bool) → ltb (length file - at) width ≡ a → (b c : Bool) → ltb (length file - (at + width)) long ≡ c
          → cond a broken
          (cond b broken (cond c broken (Ok (record { start = at + width; end = at + width + long })))) ≡ Ok p
          → (at + width ≤ p.start) × Inside p file
      go true d b c e q = let z : ◌≡◌ {A = ℕ} 0 1 = cc in absurd (omega arith)
      go false d true c e q = let z : ◌≡◌ {A = ℕ} 0 1 = cc in absurd (omega arith)
      go false d false true e q = let z : ◌≡◌ {A = ℕ} 0 1 = cc in absurd (omega arith)
      go false d false false e q =
          let w = ltb-false (length file - at) width d in
          let l = ltb-false (length file - (at + width)) long e in
          let start : at + width ≡ p.start = cc in
          let end : at + width + long ≡ p.end = cc in
          (omega arith, (omega arith, omega arith))

-- what an entry comes to, field by field
module _ (at : ℕ) (file : List ℕ) where
  pub entry_unnamed : broken ≡ field_at at 1 file → cut ≡ entry_at at file
  unfolding entry_at
  entry_unnamed e = rw (← e)

  module _ (name : Part) (e : Ok name ≡ field_at at 1 file) where
    pub entry-end : name.start ≡ name.end → Ok None ≡ entry_at at file
    unfolding entry_at
    entry-end q = rw (← e, eq-eqb name.start name.end q)

    module _ (q : name.start ≡ name.end → ⊥) where
      pub entry-unasked : broken ≡ field_at name.end 4 file → cut ≡ entry_at at file
      unfolding entry_at
      entry-unasked f = rw (← e, ne_eqb name.start name.end q, ← f)

      module _ (input : Part) (f : Ok input ≡ field_at name.end 4 file) where
        pub entry-unanswered : broken ≡ field_at input.end 4 file → cut ≡ entry_at at file
        unfolding entry_at
        entry-unanswered g = rw (← e, ne_eqb name.start name.end q, ← f, ← g)

        pub entry_whole : (output : Part) → Ok output ≡ field_at input.end 4 file
            → Ok (Some (record { name = name; input = input; output = output })) ≡ entry_at at file
        unfolding entry_at
        entry_whole output g = rw (← e, ne_eqb name.start name.end q, ← f, ← g)

-- a vector's three fields, one behind the other
pub record Lies (at : ℕ) (file : List ℕ) (v : Vector) : Type 0 where
  pub named : Inside v.name file
  pub asked : Inside v.input file
  pub answered : Inside v.output file
  pub behind : at < v.output.end

on_field_lem : (f : Field) (next : Part → NextVector) (v : Vector) → on_field f next ≡ Ok (Some v)
    → (p : Part) × (f ≡ Ok p) × (next p ≡ Ok (Some v))
on_field_lem (Ok p) next v q = (p, refl, q)
on_field_lem (Err e) next v q = let z : ◌≡◌ {A = ℕ} 0 1 = cc in absurd (omega arith)

not_end : (c : Bool) (e : NextVector) (v : Vector) → cond c (Ok None) e ≡ Ok (Some v) → e ≡ Ok (Some v)
not_end true e v q = let z : ◌≡◌ {A = ℕ} 0 1 = cc in absurd (omega arith)
not_end false e v q = q

pub entry-within : (at : ℕ) (file : List ℕ) (v : Vector) → at ≤ length file → entry_at at file ≡ Ok (Some v)
    → Lies at file v
unfolding entry_at
entry-within at file v h q =
    let a = on_field_lem (field_at at 1 file) _ v q in
    let b = on_field_lem (field_at a.0.end 4 file) _ v (not_end (eqb a.0.start a.0.end) _ v a.2) in
    let c = on_field_lem (field_at b.0.end 4 file) _ v b.2 in
    let f = field_within at 1 file h a.0 a.1 in
    let g = field_within a.0.end 4 file f.1.1 b.0 b.1 in
    let k = field_within b.0.end 4 file g.1.1 c.0 c.1 in
    let e = c.2 in
    let same : record { name = a.0; input = b.0; output = c.0 } ≡ v = cc in
    subst (λ (u : Vector). Lies at file u) same (record {
      named = f.1;
      asked = g.1;
      answered = k.1;
      behind = omega arith;
    })
