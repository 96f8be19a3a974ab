-- Laws of the small program's runs. Assumes nothing.
--     program-says   whatever the pieces, all that is said is what is said by the input
--     all-used       a message uses up all that is read
--     goes_down      every step leaves less to do, so every run ends
--     program-ends   and there is one for every input
use Rattle.std.specs.Prelude.{ℕ, zero, suc, ◌+◌, ◌*◌, ◌≤◌, ◌<◌, ◌≡◌, refl, ◌⊎◌, Bool, true, false, cond, ◌&&◌, List, []}
use Rattle.std.specs.Prelude.{◌∷◌, ◌++◌, T, eqb, length, take, drop}
use Rattle.std.proofs.Common.{arith, sym, ap, subst, ◌∙◌, inl, inr, append_assoc, append-nil, length-append}
use Rattle.std.proofs.Common.{length-drop, take-append-drop, drop_of_length-le, length-take-le}
use Rattle.std.proofs.Math.Option.{Option, none, some}
use Rattle.meaning.specs.Reply.{Reply}
use Rattle.frames.specs.Next.{next_of}
use Rattle.frames.specs.NextLaws.{next-whole, next_least}
use Rattle.frames.specs.declared.Frame.{Frame}
use Rattle.frames.specs.declared.Frame.TheVariants as frame
use Rattle.answer.specs.Answer.{done_on, open_from}
use Rattle.program.specs.Runs.{Desk, at_first, turn_at, after_read, after_end, after_say, Goes, reads, ends, says}
use Rattle.program.specs.Runs.{Says, last, stops, onward, Reached, begun, after}
use Rattle.program.specs.Said.{bad, said_by, said_in}
use Rattle.program.specs.Turn.{last_turn, quiet_turn, say_turn, open_turn, turn_by, turn_on}
use Rattle.program.proofs.TurnLaws.{Means, turn-means}
use Rattle.program.specs.declared.Turn.{Turn}
use Rattle.program.specs.declared.Turn.TheVariants.{Read, Say, Last, Stop}

-- once the end is met nothing is still to come
abbrev pub Over : Desk → Type 0
Over d = T d.ended → d.rest ≡ []

-- what is said in all: what is said so far, and what is said to all that is left
abbrev in_all : Desk → List ℕ
in_all d = d.said ++ said_in d.opened d.words (d.read ++ d.rest)

module _ (d : Desk) (o : Over d) where
  -- what the turn tells, once it is known
  means : (t : Turn) → (turn_at d).turn ≡ t → Means d.words d.read d.rest d.ended d.opened o t (turn_at d)
  means t e =
      subst (λ (x : Turn). Means d.words d.read d.rest d.ended d.opened o x (turn_at d)) e
      (turn-means d.words d.read d.rest d.ended d.opened o)

  said-last : (k : ℕ) → (turn_at d).turn ≡ Last k → d.said ++ (turn_at d).says ≡ in_all d
  said-last k e = ap (λ (l : List ℕ). d.said ++ l) (sym (means (Last k) e).0)

  said_stop : (turn_at d).turn ≡ Stop → d.said ≡ in_all d
  said_stop e = sym (ap (λ (l : List ℕ). d.said ++ l) (means Stop e) ∙ append-nil d.said)

  said_read : (k : ℕ) → in_all (after_read d k) ≡ in_all d
  said_read k =
      ap (λ (l : List ℕ). d.said ++ said_in d.opened d.words l)
      (append_assoc d.read (take k d.rest) (drop k d.rest)
      ∙ ap (λ (l : List ℕ). d.read ++ l) (take-append-drop k d.rest))

  said_say : (used k : ℕ) → (turn_at d).turn ≡ Say used k → in_all (after_say d used) ≡ in_all d
  said_say used k e =
      append_assoc d.said (turn_at d).says (said_in true (turn_at d).words (drop used d.read ++ d.rest))
      ∙ ap (λ (l : List ℕ). d.said ++ l) (sym (means (Say used k) e).0)

  -- a step keeps what is said in all, and the end once met
  over-read : (n k : ℕ) → (turn_at d).turn ≡ Read n → Over (after_read d k)
  over-read n k e t = absurd (subst T (means (Read n) e).0 t)

-- Whatever the pieces: all that is said by the time the program stops is what is said in all.
all_said : {d : Desk} {all : List ℕ} → Over d → Says d all → all ≡ in_all d
all_said {d} o (last k e) = said-last d o k e
all_said {d} o (stops e) = said_stop d o e
all_said {d} o (onward (reads n k e lo hi s) r) = all_said (over-read d o n k e) r ∙ said_read d o k
all_said {d} o (onward (ends n e s) r) = all_said (λ t. s) r
all_said {d} o (onward (says used k e) r) = all_said o r ∙ said_say d o used k e

pub program-says : (words input all : List ℕ) → Says (at_first words input) all → all ≡ said_by words input
program-says words input all r = all_said (λ t. absurd t) r

-- At a desk that a run comes to, what is read is nothing, or a part that asked for more and then at most as much as it
-- asked for. So a message uses up all that is read, and the loop that drives the program starts each message with
-- nothing read.
record Asked (read : List ℕ) (opened : Bool) : Type 0 where
  first : List ℕ
  more : List ℕ
  asks : ℕ
  all : read ≡ first ++ more
  asked : next_of first opened ≡ frame.More asks
  most : length read ≤ asks

-- what is read is told by the turn
asks-more : (f : Frame) (words read : List ℕ) (ended opened : Bool) (n : ℕ)
    → (turn_by f words read ended opened).turn ≡ Read n → f ≡ frame.More n
asks-more (frame.More m) words read ended opened n e = by ended (opened && eqb (length read) 0) e
  where
    by : (c d : Bool) → (cond c (cond d (quiet_turn Stop words) (last_turn words bad)) (quiet_turn (Read m) words)).turn
        ≡ Read n → frame.More m ≡ frame.More n
    by true true q = let z : ◌≡◌ {A = ℕ} 0 1 = cc in absurd (omega arith)
    by true false q = let z : ◌≡◌ {A = ℕ} 0 1 = cc in absurd (omega arith)
    by false d q = let z : m ≡ n = cc in ap frame.More z
asks-more (frame.Whole m) words read ended opened n e = by opened (open_from words (take m read)).refused e
  where
    by : (c : Bool) (r : Option Reply) → let msg = take m read in
        (cond c (say_turn (length msg) (done_on words msg).words (done_on words msg).says)
        (open_turn (length msg) r (open_from words msg).words)).turn ≡ Read n
        → frame.Whole m ≡ frame.More n
    by true r q = let z : ◌≡◌ {A = ℕ} 0 1 = cc in absurd (omega arith)
    by false none q = let z : ◌≡◌ {A = ℕ} 0 1 = cc in absurd (omega arith)
    by false (some x) q = let z : ◌≡◌ {A = ℕ} 0 1 = cc in absurd (omega arith)
asks-more frame.Stop words read ended opened n e = let z : ◌≡◌ {A = ℕ} 0 1 = cc in absurd (omega arith)

says-whole : (f : Frame) (words read : List ℕ) (ended opened : Bool) (used k : ℕ)
    → (turn_by f words read ended opened).turn ≡ Say used k
    → (m : ℕ) × (f ≡ frame.Whole m) × (used ≡ length (take m read))
says-whole (frame.More m) words read ended opened used k e = absurd (by ended (opened && eqb (length read) 0) e)
  where
    by : (c d : Bool) → (cond c (cond d (quiet_turn Stop words) (last_turn words bad)) (quiet_turn (Read m) words)).turn
        ≡ Say used k → ⊥
    by true true q = let z : ◌≡◌ {A = ℕ} 0 1 = cc in omega arith
    by true false q = let z : ◌≡◌ {A = ℕ} 0 1 = cc in omega arith
    by false d q = let z : ◌≡◌ {A = ℕ} 0 1 = cc in omega arith
says-whole (frame.Whole m) words read ended opened used k e =
    (m, refl, by opened (open_from words (take m read)).refused e)
  where
    by : (c : Bool) (r : Option Reply) → let msg = take m read in
        (cond c (say_turn (length msg) (done_on words msg).words (done_on words msg).says)
        (open_turn (length msg) r (open_from words msg).words)).turn ≡ Say used k
        → used ≡ length msg
    by true r q = cc
    by false none q = cc
    by false (some x) q = let z : ◌≡◌ {A = ℕ} 0 1 = cc in absurd (omega arith)
says-whole frame.Stop words read ended opened used k e = let z : ◌≡◌ {A = ℕ} 0 1 = cc in absurd (omega arith)

-- a message uses up all that is read
uses-all : (d : Desk) → (d.read ≡ []) ⊎ Asked d.read d.opened → (used k : ℕ) → (turn_at d).turn ≡ Say used k
    → used ≡ length d.read
unfolding turn_on
uses-all d a used k e = go
    (says-whole (next_of d.read d.opened) d.words d.read d.ended d.opened used k e) a
  where
    go : ((m : ℕ) × (next_of d.read d.opened ≡ frame.Whole m) × (used ≡ length (take m d.read)))
        → (d.read ≡ []) ⊎ Asked d.read d.opened
        → used ≡ length d.read
    go w (inl q) = let x = next-whole d.read d.opened w.0 w.1 in
        absurd (omega (arith, x.0, x.1, ap length q))
    go w (inr q) =
        let x = next-whole d.read d.opened w.0 w.1 in
        let whole : next_of (q.first ++ q.more) d.opened
        ≡ frame.Whole w.0 = ap (λ (r : List ℕ). next_of r d.opened) (sym q.all) ∙ w.1 in
        let l = next_least q.first q.more d.opened q.asks w.0 q.asked whole in
        omega (arith, w.2, length-take-le w.0 d.read x.1, x.1, l, q.most)

nothing_left : (used : ℕ) (read : List ℕ) → used ≡ length read → drop used read ≡ []
nothing_left used read e = let h : length read ≤ used = omega (arith, e) in drop_of_length-le read h

kept-asked : {words input : List ℕ} {d : Desk} → Reached words input d → (d.read ≡ []) ⊎ Asked d.read d.opened
unfolding turn_on
kept-asked begun = inl refl
kept-asked (after {d} r (reads n k e lo hi s)) =
    inr
    (record {
      first = d.read;
      more = take k d.rest;
      asks = n;
      all = refl;
      asked = asks-more (next_of d.read d.opened) d.words d.read d.ended d.opened n e;
      most = omega (arith, hi, length-append d.read (take k d.rest), length-take-le k d.rest s, lo);
    })
kept-asked (after {d} r (ends n e s)) = kept-asked r
kept-asked (after {d} r (says used k e)) = inl (nothing_left used d.read (uses-all d (kept-asked r) used k e))

pub all-used : (words input : List ℕ) (d : Desk) → Reached words input d → (used k : ℕ) → (turn_at d).turn ≡ Say used k
    → drop used d.read ≡ []
all-used words input d r used k e = nothing_left used d.read (uses-all d (kept-asked r) used k e)

-- how much is left to do: two for each byte that is still to come, one for each that is read, one for the end
abbrev pub left : Desk → ℕ
left d = 2 * length d.rest + length d.read + cond d.ended 0 1

less-end : (a b : ℕ) (c : Bool) → c ≡ false → a + b + 0 < a + b + cond c 0 1
less-end a b true e = absurd (subst T e tt)
less-end a b false e = omega arith

-- every step leaves less to do, so every run ends
pub goes_down : {d d' : Desk} → Over d → Goes d d' → left d' < left d
goes_down {d} o (reads n k e lo hi s) =
    omega (arith, length-append d.read (take k d.rest), length-take-le k d.rest s, length-drop k d.rest)
goes_down {d} o (ends n e s) = less-end (2 * length d.rest) (length d.read) d.ended (means d o (Read n) e).0
goes_down {d} o (says used k e) =
    let m = means d o (Say used k) e in omega (arith, length-drop used d.read, m.1, m.2)

-- and there is one from every desk: the program never hangs
some_run : (m : ℕ) (d : Desk) → Over d → left d < m → (all : List ℕ) × Says d all
some_run zero d o h = absurd (omega arith)
some_run (suc m) d o h = go (λ d' o' s. some_run m d' o' (omega (arith, h, goes_down o s))) (turn_at d).turn refl
  where
    -- a run goes on after a step
    then : ((d' : Desk) → Over d' → Goes d d' → (all : List ℕ) × Says d' all) → (d' : Desk) → Over d' → Goes d d'
        → (all : List ℕ) × Says d all
    then more d' o' s = let r = more d' o' s in (r.0, onward s r.1)

    read : ((d' : Desk) → Over d' → Goes d d' → (all : List ℕ) × Says d' all) → (n : ℕ) → (turn_at d).turn ≡ Read n
        → (rest : List ℕ) → d.rest ≡ rest
        → (all : List ℕ) × Says d all
    read more n e [] q = then more (after_end d) (λ t. q) (ends n e q)
    read more n e (x ∷ rest) q =
        then more (after_read d 1) (over-read d o n 1 e)
        (reads n 1 e (omega arith) (omega (arith, (means d o (Read n) e).1)) (omega (arith, ap length q)))

    go : ((d' : Desk) → Over d' → Goes d d' → (all : List ℕ) × Says d' all) → (t : Turn) → (turn_at d).turn ≡ t
        → (all : List ℕ) × Says d all
    go more (Read n) e = read more n e d.rest refl
    go more (Say used k) e = then more (after_say d used) o (says used k e)
    go more (Last k) e = (d.said ++ (turn_at d).says, last k e)
    go more Stop e = (d.said, stops e)

pub program-ends : (words input : List ℕ) → (all : List ℕ) × Says (at_first words input) all
program-ends words input =
    some_run (suc (left (at_first words input))) (at_first words input) (λ t. absurd t) (omega arith)
