-- Laws of the next message. Assumes nothing.
--     counted      a gossip message whose length is told has told its count
--     next-whole   the next message has at least one byte, and all of it is read
--     next_more    more bytes are asked for only while fewer are read, and never more than the longest message has
--     next-settled a message or a stop, once told, stays whatever comes
--     next_least   no message has fewer bytes than were asked for
use Rattle.std.specs.Prelude.{ℕ, ◌+◌, ◌*◌, ◌≤◌, ◌<◌, ◌≡◌, Bool, ◌||◌, List, [], ◌∷◌, ◌++◌, leb, ltb, length, get_or}
use Rattle.std.proofs.Common.{arith, sym, ap₂, subst, ◌∙◌, ltb-true, ltb-false, le-ltb, leb-false, eq-eqb, eqb-true}
use Rattle.std.proofs.Common.{length-append}
use Rattle.std.proofs.Math.Path.{refl, ap}
use Rattle.std.proofs.Math.Bool.{true, false, cond}
use Rattle.std.proofs.lemmas.Bool.{lt-leb}
use Rattle.std.proofs.Math.Dec.{T, eqb}
use Rattle.std.proofs.Math.ListN.{get_or-append}
use Rattle.lists.specs.TestLaws.{all_below-at, all_below-from}
use Rattle.lists.proofs.ElementLaws.{below-same}
use Rattle.lists.specs.Part.{mid_append}
use Rattle.limits.specs.Limits.{log_room}
use Rattle.limits.specs.KindNumbers.{head_number, record_number}
use Rattle.numbers.specs.Number.{number_of}
use Rattle.wire.specs.Kinds.{body_by, head_long, longest, record_long}
use Rattle.frames.specs.declared.Frame.{Frame}
use Rattle.frames.specs.declared.Frame.TheVariants.{More, Whole, Stop}
use Rattle.wire.specs.Head.{count_in, count-place}
use Rattle.frames.specs.Frame.{expected, count_end, gossip_frame, body_frame, frame_of}
use Rattle.frames.specs.FrameLaws.{told, settled, gossip-short, body-settled, more-short, whole_long}
use Rattle.frames.specs.Next.{record_stands, records_stand, Counted, kinds_stand, next_by, next_of}

gossip_framed : (read : List ℕ) (n : ℕ) → gossip_frame read ≡ Whole n
    → (count_end ≤ length read) × (count_in read ≤ log_room) × (head_long + count_in read * record_long ≡ n)
unfolding gossip_frame
gossip_framed read n = go (ltb (length read) count_end) refl (ltb log_room (count_in read)) refl
  where
    go : (p : Bool) → ltb (length read) count_end ≡ p → (q : Bool) → ltb log_room (count_in read) ≡ q
        → cond p (More count_end) (cond q Stop (Whole (head_long + count_in read * record_long))) ≡ Whole n
        → (count_end ≤ length read) × (count_in read ≤ log_room) × (head_long + count_in read * record_long ≡ n)
    go true s q t e = let z : ◌≡◌ {A = ℕ} 0 1 = cc in absurd (omega arith)
    go false s true t e = let z : ◌≡◌ {A = ℕ} 0 1 = cc in absurd (omega arith)
    go false s false t e = (ltb-false (length read) count_end s, ltb-false log_room (count_in read) t, cc)

pub counted : (read : List ℕ) (opened : Bool) (n : ℕ) → frame_of read opened ≡ Whole n → (0 < length read)
    × Counted read
unfolding frame_of
counted [] opened n e = let z : ◌≡◌ {A = ℕ} 0 1 = cc in absurd (omega arith)
counted (k ∷ rest) opened n e =
    (omega arith, λ one. go (expected opened k) (eqb k head_number) (eq-eqb k head_number one) e)
  where
    go : (p q : Bool) → q ≡ true → cond p (cond q (gossip_frame (k ∷ rest)) (body_frame (body_by k))) Stop ≡ Whole n
        → (count_end ≤ length (k ∷ rest)) × (count_in (k ∷ rest) ≤ log_room)
    go true true f w = let g = gossip_framed (k ∷ rest) n w in (g.0, g.1)
    go true false f w = absurd (subst T (sym f) tt)
    go false q f w = let z : ◌≡◌ {A = ℕ} 0 1 = cc in absurd (omega arith)

-- and then it is as long as its records say
counted-long :
    (read : List ℕ) (opened : Bool) (n : ℕ) → frame_of read opened ≡ Whole n → get_or read 0 0 ≡ head_number
    → head_long + count_in read * record_long ≡ n
unfolding frame_of
counted-long [] opened n e one = let z : ◌≡◌ {A = ℕ} 0 1 = cc in absurd (omega arith)
counted-long (k ∷ rest) opened n e one = go (expected opened k) (eqb k head_number) (eq-eqb k head_number one) e
  where
    go : (p q : Bool) → q ≡ true → cond p (cond q (gossip_frame (k ∷ rest)) (body_frame (body_by k))) Stop ≡ Whole n
        → head_long + count_in (k ∷ rest) * record_long ≡ n
    go true true f w = (gossip_framed (k ∷ rest) n w).2
    go true false f w = absurd (subst T (sym f) tt)
    go false q f w = let z : ◌≡◌ {A = ℕ} 0 1 = cc in absurd (omega arith)

-- what the next message is, by whether its pieces have their kinds and whether fewer bytes are read than it has
abbrev whole_by : ℕ → Bool → Bool → Frame
whole_by m stand short = cond stand (cond short (More m) (Whole m)) Stop

pub next-whole : (read : List ℕ) (opened : Bool) (n : ℕ) → next_of read opened ≡ Whole n → (1 ≤ n) × (n ≤ length read)
unfolding next_of
next-whole read opened n = go (frame_of read opened) refl
  where
    whole : (m : ℕ) → frame_of read opened ≡ Whole m → (d c : Bool) → ltb (length read) m ≡ c → whole_by m d c ≡ Whole n
        → (1 ≤ n) × (n ≤ length read)
    whole m f false c s e = let z : ◌≡◌ {A = ℕ} 0 1 = cc in absurd (omega arith)
    whole m f true true s e = let z : ◌≡◌ {A = ℕ} 0 1 = cc in absurd (omega arith)
    whole m f true false s e =
        let z : m ≡ n = cc in
        (omega (arith, (whole_long read opened m f).0), omega (arith, ltb-false (length read) m s))

    go : (f : Frame) → frame_of read opened ≡ f → next_by f read ≡ Whole n → (1 ≤ n) × (n ≤ length read)
    go (More m) f e = let z : ◌≡◌ {A = ℕ} 0 1 = cc in absurd (omega arith)
    go (Whole m) f e = whole m f (kinds_stand read) (ltb (length read) m) refl e
    go Stop f e = let z : ◌≡◌ {A = ℕ} 0 1 = cc in absurd (omega arith)

pub next_more : (read : List ℕ) (opened : Bool) (n : ℕ) → next_of read opened ≡ More n
    → (length read < n) × (n ≤ longest)
unfolding next_of
next_more read opened n = go (frame_of read opened) refl
  where
    whole : (m : ℕ) → m ≤ longest → (d c : Bool) → ltb (length read) m ≡ c → whole_by m d c ≡ More n
        → (length read < n) × (n ≤ longest)
    whole m l false c s e = let z : ◌≡◌ {A = ℕ} 0 1 = cc in absurd (omega arith)
    whole m l true true s e = let z : m ≡ n = cc in (omega (arith, ltb-true (length read) m s), omega arith)
    whole m l true false s e = let z : ◌≡◌ {A = ℕ} 0 1 = cc in absurd (omega arith)

    go : (f : Frame) → frame_of read opened ≡ f → next_by f read ≡ More n → (length read < n) × (n ≤ longest)
    go (More m) f e = let z : m ≡ n = cc in let s = more-short read opened m f in
        (omega (arith, s.0), omega (arith, s.1))
    go (Whole m) f e = whole m (whole_long read opened m f).1 (kinds_stand read) (ltb (length read) m) refl e
    go Stop f e = let z : ◌≡◌ {A = ℕ} 0 1 = cc in absurd (omega arith)

-- once told, what comes behind does not matter
count-settled : (read more : List ℕ) → count_end ≤ length read → count_in (read ++ more) ≡ count_in read
count-settled read more h =
    count-place (read ++ more) ∙ ap number_of (mid_append 3 2 read more h) ∙ sym (count-place read)

module _ (read more : List ℕ) where
  -- a byte of kind that is read stays as it is
  stands-still : (k : ℕ) → head_long + k * record_long < length read → record_stands (read ++ more) k
      ≡ record_stands read k
  stands-still k h =
      let at = head_long + k * record_long in
      ap₂ (λ (p : Bool) (x : ℕ). p || eqb x record_number)
      (lt-leb (length (read ++ more)) at (omega (arith, h, length-append read more)) ∙ sym (lt-leb (length read) at h))
      (get_or-append read more 0 at h)

  -- so a wrong one stays wrong
  stood-before : (k : ℕ) → T (record_stands (read ++ more) k) → T (record_stands read k)
  stood-before k t = by (leb (length read) (head_long + k * record_long)) refl
    where
      by : (c : Bool) → leb (length read) (head_long + k * record_long) ≡ c → T (record_stands read k)
      by true q = subst (λ (p : Bool). T (p || eqb (get_or read (head_long + k * record_long) 0) record_number))
          (sym q) tt
      by false q = subst T (stands-still k (leb-false (length read) (head_long + k * record_long) q)) t

  module _ (begun : 0 < length read) (told : Counted read) where
    kinds-by : (b : Bool) → eqb (get_or read 0 0) head_number ≡ b
        → kinds_stand (read ++ more) ≡ cond b (records_stand (count_in read) (read ++ more)) true
    unfolding kinds_stand
    kinds-by b e =
        ap (λ (k : ℕ). cond (eqb k head_number) (records_stand (count_in (read ++ more)) (read ++ more)) true)
        (get_or-append read more 0 0 begun)
        ∙ ap (λ (c : Bool). cond c (records_stand (count_in (read ++ more)) (read ++ more)) true) e ∙ go b e
      where
        go : (c : Bool) → eqb (get_or read 0 0) head_number ≡ c
            → cond c (records_stand (count_in (read ++ more)) (read ++ more)) true
            ≡ cond c (records_stand (count_in read) (read ++ more)) true
        go true s =
            ap (λ (n : ℕ). records_stand n (read ++ more))
            (count-settled read more (told (eqb-true (get_or read 0 0) head_number s)).0)
        go false s = refl

    -- pieces that have their kinds when more is read had them before
    kinds-before : T (kinds_stand (read ++ more)) → T (kinds_stand read)
    unfolding kinds_stand
    kinds-before t = go (eqb (get_or read 0 0) head_number) refl
      where
        go : (b : Bool) → eqb (get_or read 0 0) head_number ≡ b → T (cond b (records_stand (count_in read) read) true)
        go true e =
            all_below-from (count_in read) (record_stands read)
            (λ k l. stood-before k (all_below-at (count_in read) (record_stands (read ++ more))
            (subst T (kinds-by true e) t) k l))
        go false e = tt

    -- and once all of it is read they have them whatever comes
    kinds-after :
        (get_or read 0 0 ≡ head_number → head_long + count_in read * record_long ≤ length read)
        → kinds_stand (read ++ more) ≡ kinds_stand read
    unfolding kinds_stand
    kinds-after all = kinds-by (eqb (get_or read 0 0) head_number) refl ∙ go (eqb (get_or read 0 0) head_number) refl
      where
        go : (b : Bool) → eqb (get_or read 0 0) head_number ≡ b
            → cond b (records_stand (count_in read) (read ++ more)) true
            ≡ cond b (records_stand (count_in read) read) true
        go true e =
            below-same (count_in read) (record_stands (read ++ more)) (record_stands read)
            (λ k l. stands-still k (omega (arith, l, all (eqb-true (get_or read 0 0) head_number e))))
        go false e = refl

stays-false : (b : Bool) → (T b → ⊥) → b ≡ false
stays-false true n = absurd (n tt)
stays-false false n = refl

pub next-settled : (read more : List ℕ) (opened : Bool) → T (told (next_of read opened))
    → next_of (read ++ more) opened ≡ next_of read opened
unfolding next_of
next-settled read more opened = go (frame_of read opened) refl
  where
    later : (f : Frame) → frame_of read opened ≡ f → T (told f) → frame_of (read ++ more) opened ≡ f
    later f e t = settled read more opened (subst (λ (x : Frame). T (told x)) (sym e) t) ∙ e

    whole : (m : ℕ) → frame_of read opened ≡ Whole m → (d : Bool) → kinds_stand read ≡ d → (c : Bool)
        → ltb (length read) m ≡ c
        → T (told (whole_by m d c)) → next_by (Whole m) (read ++ more) ≡ whole_by m d c
    whole m e false s c r t =
        let g = counted read opened m e in
        ap (λ (d : Bool). whole_by m d (ltb (length (read ++ more)) m))
        (stays-false (kinds_stand (read ++ more)) (λ w. subst T s (kinds-before read more g.0 g.1 w)))
    whole m e true s true r t = absurd t
    whole m e true s false r t =
        let g = counted read opened m e in
        let l = ltb-false (length read) m r in
        ap₂ (whole_by m) (kinds-after read more g.0 g.1 (λ one. omega (arith, l, counted-long read opened m e one))
        ∙ s)
        (le-ltb (length (read ++ more)) m (omega (arith, l, length-append read more)))

    go : (f : Frame) → frame_of read opened ≡ f → T (told (next_by f read))
        → next_by (frame_of (read ++ more) opened) (read ++ more) ≡ next_by f read
    go (More m) e t = absurd t
    go (Whole m) e t =
        ap (λ (f : Frame). next_by f (read ++ more)) (later (Whole m) e tt)
        ∙ whole m e (kinds_stand read) refl (ltb (length read) m) refl t
    go Stop e t = ap (λ (f : Frame). next_by f (read ++ more)) (later Stop e tt)

-- no message has fewer bytes than were asked for
frame_least : (read more : List ℕ) (opened : Bool) (n m : ℕ) → frame_of read opened ≡ More n
    → frame_of (read ++ more) opened ≡ Whole m → n ≤ m
unfolding frame_of
frame_least [] more opened n m e f = let z : 1 ≡ n = cc in omega (arith, (whole_long more opened m f).0)
frame_least (k ∷ rest) more opened n m e f = go (expected opened k) (eqb k head_number) e f
  where
    go : (p q : Bool) → cond p (cond q (gossip_frame (k ∷ rest)) (body_frame (body_by k))) Stop ≡ More n
        → cond p (cond q (gossip_frame (k ∷ rest ++ more)) (body_frame (body_by k))) Stop ≡ Whole m → n ≤ m
    go true true a b = omega (arith, (gossip-short (k ∷ rest) n a).1, (gossip_framed (k ∷ rest ++ more) m b).2)
    go true false a b = absurd (body-settled (body_by k) n a)
    go false q a b = let z : ◌≡◌ {A = ℕ} 0 1 = cc in absurd (omega arith)

pub next_least : (read more : List ℕ) (opened : Bool) (n m : ℕ) → next_of read opened ≡ More n
    → next_of (read ++ more) opened ≡ Whole m → n ≤ m
unfolding next_of
next_least read more opened n m e f = go (frame_of read opened) refl e
  where
    framed_as : (g : Frame) → next_by g (read ++ more) ≡ Whole m → g ≡ Whole m
    framed_as (More k) q = let z : ◌≡◌ {A = ℕ} 0 1 = cc in absurd (omega arith)
    framed_as (Whole k) q = by (kinds_stand (read ++ more)) (ltb (length (read ++ more)) k) q
      where
        by : (d c : Bool) → whole_by k d c ≡ Whole m → Whole k ≡ Whole m
        by false c q = let z : ◌≡◌ {A = ℕ} 0 1 = cc in absurd (omega arith)
        by true true q = let z : ◌≡◌ {A = ℕ} 0 1 = cc in absurd (omega arith)
        by true false q = q
    framed_as Stop q = let z : ◌≡◌ {A = ℕ} 0 1 = cc in absurd (omega arith)

    later : frame_of (read ++ more) opened ≡ Whole m
    later = framed_as (frame_of (read ++ more) opened) f

    whole : (k : ℕ) → frame_of read opened ≡ Whole k → (d c : Bool) → whole_by k d c ≡ More n → n ≤ m
    whole k g false c q = let z : ◌≡◌ {A = ℕ} 0 1 = cc in absurd (omega arith)
    whole k g true true q =
        let z : k ≡ n = cc in
        let s : Whole k ≡ Whole m = sym (settled read more opened (subst (λ (x : Frame). T (told x)) (sym g) tt) ∙ g)
        ∙ later in
        let y : k ≡ m = cc in omega arith
    whole k g true false q = let z : ◌≡◌ {A = ℕ} 0 1 = cc in absurd (omega arith)

    go : (g : Frame) → frame_of read opened ≡ g → next_by g read ≡ More n → n ≤ m
    go (More k) g q = frame_least read more opened n m (g ∙ q) later
    go (Whole k) g q = whole k g (kinds_stand read) (ltb (length read) k) q
    go Stop g q = let z : ◌≡◌ {A = ℕ} 0 1 = cc in absurd (omega arith)
