-- Laws: what a reader's answer tells of the bytes that it read. Assumes nothing.
--     told, unread   a message says that the bytes are readable, a refusal that they are not
--     untold         so does any answer that is not the message
--     told_line      and the figures of a message are then the line that the bytes hold
use Rattle.std.specs.Prelude.{ℕ, ◌≡◌, ◌≢◌, refl, Bool, true, false, cond, List, T, Result, Ok, Err}
use Rattle.std.proofs.Common.{arith, sym, ap, ◌∙◌}
use Rattle.wire.specs.declared.Refusal.{Refusal}
use Rattle.wire.specs.declared.Refusal.TheVariants.{Bad}
use Rattle.wire.specs.Says.{Said}
use Rattle.wire.specs.Said.{figures, read_figures}
use Rattle.wire.specs.Kinds.{Kind}
use Rattle.wire.proofs.Laws.{Lawful, figures-read}
use Rattle.wire.specs.Read.{line_of, readable, read_as}

-- by any test
pub answered : (c : Bool) (w v : Said) → Ok v ≡ cond c (Ok w) (Err Bad) → T c × (v ≡ w)
answered true w v e = (tt, cc)
answered false w v e = let z : ◌≡◌ {A = ℕ} 0 1 = cc in absurd (omega arith)

pub unanswered : (c : Bool) (w : Said) (r : Refusal) → Err r ≡ cond c (Ok w) (Err Bad) → (c ≡ false) × (r ≡ Bad)
unanswered true w r e = let z : ◌≡◌ {A = ℕ} 0 1 = cc in absurd (omega arith)
unanswered false w r e = (refl, cc)

pub not-answered : (c : Bool) (w : Said) (v : Result Said Refusal) → v ≡ cond c (Ok w) (Err Bad) → v ≢ Ok w → c ≡ false
not-answered true w v e n = absurd (n e)
not-answered false w v e n = refl

module _ (k : Kind) (bytes : List ℕ) where
  module _ (v : Said) (read : Ok v ≡ read_as k bytes) where
    pub told : T (readable k bytes) × (v ≡ k.said (line_of k bytes))
    unfolding read_as
    told = answered (readable k bytes) (k.said (line_of k bytes)) v read

    pub told_line : Lawful k → line_of k bytes ≡ figures v
    told_line l = sym (figures-read k l bytes told.0) ∙ ap read_figures (sym read)

  pub unread : (r : Refusal) → Err r ≡ read_as k bytes → (readable k bytes ≡ false) × (r ≡ Bad)
  unfolding read_as
  unread = unanswered (readable k bytes) (k.said (line_of k bytes))

  pub untold : (v : Result Said Refusal) → v ≡ read_as k bytes → v ≢ Ok (k.said (line_of k bytes))
      → readable k bytes ≡ false
  unfolding read_as
  untold = not-answered (readable k bytes) (k.said (line_of k bytes))
