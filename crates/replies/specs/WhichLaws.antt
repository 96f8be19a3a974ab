-- Laws: a reader's answer settles whether the bytes are of its kind, and so which reply they are. Assumes nothing.
--     this   they are of the kind when the answer is a message
--     next   else they are of one of the kinds after it, or of none
use Rattle.std.specs.Prelude.{ℕ, ◌≡◌, refl, Bool, true, false, cond, List, ◌∷◌, Result, Ok, Err, is_ok}
use Rattle.std.proofs.Common.{sym, ap, ◌∙◌}
use Rattle.wire.specs.declared.Refusal.{Refusal}
use Rattle.wire.specs.declared.Refusal.TheVariants.{Bad}
use Rattle.wire.specs.Says.{Said, says}
use Rattle.wire.specs.Kinds.{Kind}
use Rattle.wire.specs.Read.{line_of, readable, read_as}
use Rattle.replies.specs.Which.{kind_among}

-- the reader's answer was asked whether it is a message
pub settled :
    {A : Type 0} (k : Kind) (bytes : List ℕ) (f : A → Said) (v : Result A Refusal) → says f v ≡ read_as k bytes
    → {asked : Bool} → asked ≡ is_ok v
    → {b : Bool} → asked ≡ b
    → readable k bytes ≡ b
unfolding read_as
settled {A} k bytes f v read ask e = sym (ask ∙ same v ∙ ap is_ok read ∙ go (readable k bytes)) ∙ e
  where
    same : (r : Result A Refusal) → is_ok r ≡ is_ok (says f r)
    same (Ok x) = refl
    same (Err x) = refl

    go : (c : Bool) → is_ok (cond {A = Result Said Refusal} c (Ok (k.said (line_of k bytes))) (Err Bad)) ≡ c
    go true = refl
    go false = refl

module _ {A : Type 0} (k : Kind) (bytes : List ℕ) (f : A → Said) (v : Result A Refusal)
    (read : says f v ≡ read_as k bytes) where
  pub this : (ks : List Kind) → is_ok v ≡ true → kind_among (k ∷ ks) bytes ≡ k.number
  unfolding kind_among
  this ks e = rw (settled k bytes f v read refl e)

  pub next : (ks : List Kind) → is_ok v ≡ false → kind_among (k ∷ ks) bytes ≡ kind_among ks bytes
  unfolding kind_among
  next ks e = rw (settled k bytes f v read refl e)
