-- Laws of what the small program does next: each turn is a part of what is said to all that is left. Assumes nothing.
--     turn-means   what each turn tells of what is said, whatever of the input is still to come
--     turn-told    the same of the turn that was given, where nothing is still to come
--     read-within, say-within, last_within   what a turn asks for and says is within what is lent
--     one-turn     two turns that both meet the promise are equal
use Rattle.std.specs.Prelude.{ℕ, ◌≤◌, ◌<◌, ◌≡◌, Bool, true, false, cond, ◌&&◌, List, [], ◌∷◌, ◌++◌, T, length, take}
use Rattle.std.specs.Prelude.{drop}
use Rattle.std.proofs.Common.{arith, sym, ap, ap₂, subst, ◌∙◌, append-nil, eqb-true, length-append, length-take-le}
use Rattle.std.proofs.Math.Path.{refl}
use Rattle.std.proofs.Math.Option.{Option, none, some}
use Rattle.std.proofs.Math.Dec.{eqb}
use Rattle.std.proofs.lemmas.List.{take-append-le, drop-append-le}
use Rattle.wire.specs.Kinds.{longest}
use Rattle.meaning.specs.Reply.{Reply}
use Rattle.frames.specs.Frame.{frame_of}
use Rattle.frames.specs.FrameLaws.{told}
use Rattle.frames.specs.Next.{next_of}
use Rattle.frames.specs.NextLaws.{next-whole, next_more, next-settled}
use Rattle.frames.specs.declared.Frame.{Frame}
use Rattle.frames.specs.declared.Frame.TheVariants as frame
use Rattle.answer.specs.Answer.{done_on, open_from}
use Rattle.program.specs.Said.{bad, said_from, said_in}
use Rattle.program.proofs.SaidLaws.{said-end, said-broken, said-turn, begin-broken, begin-refused, begin-opened}
use Rattle.program.specs.Turn.{Turned, last_turn, quiet_turn, open_turn, message_turn, turn_by, turn_on, Turns}
use Rattle.program.specs.declared.Turn.{Turn}
use Rattle.program.specs.declared.Turn.TheVariants.{Read, Say, Last, Stop}

more-not-whole : (m n : ℕ) → frame.More m ≡ frame.Whole n → ⊥
more-not-whole m n e = let z : ◌≡◌ {A = ℕ} 0 1 = cc in omega arith

stop-not-whole : (n : ℕ) → frame.Stop ≡ frame.Whole n → ⊥
stop-not-whole n e = let z : ◌≡◌ {A = ℕ} 0 1 = cc in omega arith

-- nothing read stops nothing
stop-some : (read : List ℕ) (opened : Bool) → next_of read opened ≡ frame.Stop → 0 < length read
unfolding next_of frame_of
stop-some [] opened e = let z : ◌≡◌ {A = ℕ} 0 1 = cc in absurd (omega arith)
stop-some (x ∷ read) opened e = omega arith

-- the input is what is read and not yet used, and then the rest; once it has ended there is no rest
module _ (words read rest : List ℕ) (ended opened : Bool) (over : T ended → rest ≡ []) where
  abbrev all : List ℕ
  all = read ++ rest

  -- More is asked for only before the end, and never more than the longest message has. A message's part of what is
  -- said comes first, and what is left has the rest. The last turn says all that is still to be said; without a word it
  -- is nothing.
  abbrev pub Means : Turn → Turned → Type 0
  Means (Read n) o = (ended ≡ false) × (length read < n) × (n ≤ longest)
  Means (Say n k) o =
      (said_in opened words all ≡ o.says ++ said_in true o.words (drop n read ++ rest)) × (1 ≤ n) × (n ≤ length read)
      × (k ≡ length o.says)
  Means (Last k) o = (said_in opened words all ≡ o.says) × (k ≡ length o.says)
  Means Stop o = said_in opened words all ≡ []

  broken-said : (f : Frame) → next_of all opened ≡ f → ((n : ℕ) → f ≡ frame.Whole n → ⊥) → (T opened → 0 < length all)
      → said_in opened words all ≡ bad
  broken-said f e never more = go opened e more
    where
      go : (c : Bool) → next_of all c ≡ f → (T c → 0 < length all) → said_in c words all ≡ bad
      go true q s = said-broken words all f (s tt) q never
      go false q s = begin-broken words all f q never

  more-means : (n : ℕ) → next_of read opened ≡ frame.More n → (c : Bool) → ended ≡ c → (d : Bool)
      → (opened && eqb (length read) 0) ≡ d
      → let o = cond c (cond d (quiet_turn Stop words) (last_turn words bad)) (quiet_turn (Read n) words) in
      Means o.turn o
  more-means n e false f d g = let m = next_more read opened n e in (f, m.0, m.1)
  more-means n e true f d g = ends (over (subst T (sym f) tt)) d g
    where
      here : rest ≡ [] → all ≡ read
      here r = ap (λ (l : List ℕ). read ++ l) r ∙ append-nil read

      nothing : (c : Bool) (left : List ℕ) → (c && eqb (length left) 0) ≡ true → said_in c words left ≡ []
      nothing true [] q = said-end words
      nothing true (x ∷ left) q = absurd (omega (arith, eqb-true (length (x ∷ left)) 0 q))
      nothing false left q = absurd (subst T (sym q) tt)

      something : (c : Bool) (left : List ℕ) → (c && eqb (length left) 0) ≡ false → T c → 0 < length left
      something true [] q t = absurd (subst T q tt)
      something true (x ∷ left) q t = omega arith
      something false left q t = absurd t

      ends : rest ≡ [] → (d : Bool) → (opened && eqb (length read) 0) ≡ d
          → let o = cond d (quiet_turn Stop words) (last_turn words bad) in Means o.turn o
      ends r true q = ap (said_in opened words) (here r) ∙ nothing opened read q
      ends r false q = (
        broken-said (frame.More n) (ap (λ (l : List ℕ). next_of l opened) (here r) ∙ e) (more-not-whole n)
            (λ t. subst (λ (l : List ℕ). 0 < length l) (sym (here r)) (something opened read q t)),
        refl,
      )

  -- a whole message is the same whatever comes
  module _ (n : ℕ) (e : next_of read opened ≡ frame.Whole n) where
    within : (1 ≤ n) × (n ≤ length read)
    within = next-whole read opened n e

    long : length (take n read) ≡ n
    long = length-take-le n read within.1

    still : next_of all opened ≡ frame.Whole n
    still = next-settled read rest opened (subst (λ (f : Frame). T (told f)) (sym e) tt) ∙ e

    front : take n all ≡ take n read
    front = take-append-le n read rest within.1

    behind : drop n all ≡ drop (length (take n read)) read ++ rest
    behind = drop-append-le n read rest within.1 ∙ ap (λ (k : ℕ). drop k read ++ rest) (sym long)

    used : (1 ≤ length (take n read)) × (length (take n read) ≤ length read)
    used = (omega (arith, within.0, long), omega (arith, within.1, long))

    opened-at : (c : Bool) → opened ≡ c
        → (said_in opened words all ≡ said_in c words all) × (next_of all c ≡ frame.Whole n)
    opened-at c f = (ap (λ (x : Bool). said_in x words all) f, ap (next_of all) (sym f) ∙ still)

    replied : opened ≡ true
        → let done = done_on words (take n read) in
        said_in opened words all ≡ done.says ++ said_from done.words (drop (length (take n read)) read ++ rest)
    replied f =
        let o = opened-at true f in
        o.0 ∙ said-turn words all n o.1
        ∙ ap₂ (λ (m l : List ℕ). (done_on words m).says ++ said_from (done_on words m).words l) front behind

    opens : opened ≡ false → (r : Option Reply) → (open_from words (take n read)).refused ≡ r
        → let t = open_turn (length (take n read)) r (open_from words (take n read)).words in Means t.turn t
    opens f none r =
        let o = opened-at false f in (
          o.0 ∙ begin-opened words all n o.1 (ap (λ (m : List ℕ). (open_from words m).refused) front ∙ r)
              ∙ ap₂ (λ (m l : List ℕ). said_from (open_from words m).words l) front behind,
          used.0,
          used.1,
          refl,
        )
    opens f (some x) r =
        let o = opened-at false f in
        (o.0 ∙ begin-refused words all n o.1 x (ap (λ (m : List ℕ). (open_from words m).refused) front ∙ r), refl)

    message-means : (c : Bool) → opened ≡ c → let t = message_turn words (take n read) c in Means t.turn t
    message-means true f = (replied f, used.0, used.1, refl)
    message-means false f = opens f (open_from words (take n read)).refused refl

  stop-means : next_of read opened ≡ frame.Stop → (said_in opened words all ≡ bad) × (length bad ≡ length bad)
  stop-means e = (
    broken-said frame.Stop (next-settled read rest opened (subst (λ (f : Frame). T (told f)) (sym e) tt) ∙ e)
        stop-not-whole
        (λ t. omega (arith, stop-some read opened e, length-append read rest)),
    refl,
  )

  pub turn-means : Means (turn_on words read ended opened).turn (turn_on words read ended opened)
  unfolding turn_on
  turn-means = go (next_of read opened) refl
    where
      go : (f : Frame) → next_of read opened ≡ f → let o = turn_by f words read ended opened in Means o.turn o
      go (frame.More n) e = more-means n e ended refl (opened && eqb (length read) 0) refl
      go (frame.Whole n) e = message-means n e opened refl
      go frame.Stop e = stop-means e

-- what a turn asks for and says is within what the loop that drives it has: more is read only up to the longest
-- message, and what is said stands in the output
module _ (words read : List ℕ) (ended opened : Bool) (t : Turn) (after out bytes : List ℕ)
    (p : Turns (turn_on words read ended opened) t after out bytes) where
  -- what the turn that was given tells of an input that ends here
  pub turn-told : (x : Turn) → t ≡ x → Means words read [] ended opened (λ e. refl) x (turn_on words read ended opened)
  turn-told x e =
      subst (λ (y : Turn). Means words read [] ended opened (λ e. refl) y (turn_on words read ended opened))
      (sym p.gives ∙ e)
      (turn-means words read [] ended opened (λ e. refl))

  said-stands : (k : ℕ) → k ≡ length (turn_on words read ended opened).says → k ≤ length bytes
  said-stands k e =
      let says = (turn_on words read ended opened).says in
      omega (arith, e, ap length p.writes, length-append says (drop (length says) out))

  pub read-within : (n : ℕ) → t ≡ Read n → (length read < n) × (n ≤ longest)
  read-within n e = let m = turn-told (Read n) e in (m.1, m.2)

  pub say-within : (used said : ℕ) → t ≡ Say used said → (1 ≤ used) × (used ≤ length read) × (said ≤ length bytes)
  say-within used said e = let m = turn-told (Say used said) e in (m.1, m.2, said-stands said m.3)

  pub last_within : (said : ℕ) → t ≡ Last said → said ≤ length bytes
  last_within said e = said-stands said (turn-told (Last said) e).1

-- two turns that both meet the promise are equal
pub one-turn :
    (o : Turned) (turn turn' : Turn) (words words' out bytes bytes' : List ℕ) → Turns o turn words out bytes
    → Turns o turn' words' out bytes'
    → (turn ≡ turn') × (words ≡ words') × (bytes ≡ bytes')
one-turn o turn turn' words words' out bytes bytes' p q =
    (p.gives ∙ sym q.gives, p.leaves ∙ sym q.leaves, p.writes ∙ sym q.writes)
