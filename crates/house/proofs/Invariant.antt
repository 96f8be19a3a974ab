-- What holds at every moment of a run, and that a step which puts one book in order keeps it. Assumes nothing.
use Prim.Native.Nat.{ℕ, ◌-◌, ◌<◌, ◌≤◌, suc}
use native.Mathlib.Omega.{arith}
use mathlib.Core.Path.{◌≡◌, ap, ◌∙◌, sym, ap₂, subst}
use mathlib.Core.Logic.{◌≢◌, ◌⊎◌, inl, inr}
use mathlib.Core.Bool.{Bool, cond}
use mathlib.Core.List.{List, [], ◌∷◌}
use lib.Dec.{T, eqb, eqb→eq, ltb, ltb→lt, nltb→le}
use lib.ListN.{get_or}
use Rattle.lists.specs.TestLaws.{◌∈◌, either, is_true, is_false, not-from, tell}
use Rattle.lists.proofs.ElementLaws.{same_or_not, eq→eqb}
use Rattle.lists.proofs.Sorted.{rising-one}
use Rattle.stamp.specs.Laws.{Covers}
use Rattle.stamp.specs.Stamp.{Stamp, part}
use Rattle.tally.specs.Body.{taps_in, body_fits}
use Rattle.tally.specs.declared.Tap.{Tap}
use Rattle.ledger.specs.Log.{gathered}
use Rattle.ledger.proofs.LogLaws.{put-log}
use Rattle.ledger.specs.Message.{Message, message_fits}
use Rattle.ledger.specs.Record.{Record, may_go, is_applied, stamp_of, record_fits, place, has}
use Rattle.ledger.proofs.RecordLaws.{obeys, has-at, go-applied, applied_mono}
use Rattle.meaning.specs.Book.{known, ready, Book, row}
use Rattle.meaning.proofs.SettleLaws.{Ready, known-now, known-rise, ready-rise, new-gathered, settle-sound, log-from}
use Rattle.meaning.proofs.SettleLaws.{log_or-gone, go-rise, counted-from, counted-now, counted-old, value-now}
use Rattle.meaning.proofs.SettleLaws.{value-old}
use Rattle.meaning.proofs.SettleLaws.{value_least}
use Rattle.meaning.specs.BookLaws.{Sound, applied-here}
use Rattle.meaning.specs.Step.{settle}
use Rattle.house.specs.House.{House, put}

-- the history has an applied record with the tap
abbrev pub Tapped : List Record → Stamp → Tap → Type 0
Tapped history y t = (r : Record) × (r ∈ history) × T (is_applied y r) × (t ∈ taps_in r.body)

-- One screen's book beside the history, the gossip sent, and every screen's known stamp `Known-of`.
pub record ScreenOk (n : ℕ) (Known-of : ℕ → Stamp) (sent : List Message) (history : List Record) (i : ℕ)
    (b : Book) : Type 0 where
  pub book-sound : Sound b
  pub mine : b.me ≡ i
  pub size : b.screens ≡ n
  -- part k is at most what screen k has taken
  pub own-most : (k : ℕ) → k < n → part (known b) k ≤ part (Known-of k) k
  -- a row is no more than what that screen knows, and is what it once sent
  pub rows_true : (j : ℕ) → j < n → Covers (Known-of j) (row b j)
  pub rows-sent : (j : ℕ) → j < n → j ≢ i
      → ((k : ℕ) → part (row b j) k ≡ 0) ⊎ ((m : Message) × (m ∈ sent) × (m.sender ≡ j) × (m.stamp ≡ row b j))
  pub log-taken : (r : Record) → r ∈ b.log → r ∈ history
  -- a known record is in the log, or may go
  pub kept :
      (r : Record) → r ∈ history → r.number ≤ part (known b) r.origin
      → (r ∈ b.log) ⊎ T (may_go (ready b) b.table r)
  -- the counted taps are those of applied records
  pub counted-taken : (t : Tap) → t ∈ b.counted → Tapped history (ready b) t
  pub taken-counted :
      (r : Record) → r ∈ history → T (is_applied (ready b) r) → (t : Tap) → t ∈ taps_in r.body → t ∈ b.counted
  -- the value stamp is the least that covers the stamps of applied records
  pub value-over : (r : Record) → r ∈ history → T (is_applied (ready b) r) → Covers b.value (stamp_of r)
  pub value_under :
      (s : Stamp) → ((r : Record) → r ∈ history → T (is_applied (ready b) r) → Covers s (stamp_of r))
      → Covers s b.value

-- One message that was sent: what its sender's book once was.
pub record SentOk (n : ℕ) (Known-of : ℕ → Stamp) (history : List Record) (m : Message) : Type 0 where
  pub fits : T (message_fits body_fits m)
  pub size : m.screens ≡ n
  pub from : m.sender < n
  pub old : Covers (Known-of m.sender) m.stamp
  pub only-taken : (r : Record) → r ∈ m.records → r ∈ history
  pub whole :
      (r : Record) → r ∈ history → r.number ≤ part m.stamp r.origin
      → (r ∈ m.records) ⊎ ((i : ℕ) → i < n → r.number ≤ part (Known-of i) r.origin)

-- The records taken.
pub record TakenOk (n : ℕ) (Known-of : ℕ → Stamp) (history : List Record) : Type 0 where
  pub one : (r s : Record) → r ∈ history → s ∈ history → r.origin ≡ s.origin → r.number ≡ s.number → r ≡ s
  pub obey : (r : Record) → r ∈ history → T (record_fits body_fits n r)
  pub owned : (r : Record) → r ∈ history → r.number ≤ part (Known-of r.origin) r.origin
  pub some : (k q : ℕ) → k < n → q < part (Known-of k) k
      → (r : Record) × (r ∈ history) × (r.origin ≡ k) × (r.number ≡ suc q)

abbrev pub known_of : House → ℕ → Stamp
known_of h k = known (h.book k)

pub record Inv (n : ℕ) (h : House) : Type 0 where
  pub screens : (i : ℕ) → i < n → ScreenOk n (known_of h) h.sent h.history i (h.book i)
  pub messages : (m : Message) → m ∈ h.sent → SentOk n (known_of h) h.history m
  pub chain : (m m' : Message) → m ∈ h.sent → m' ∈ h.sent → m.sender ≡ m'.sender
      → Covers m.stamp m'.stamp ⊎ Covers m'.stamp m.stamp
  pub taken : TakenOk n (known_of h) h.history

-- A screen whose book stays, while stamps rise, gossip is sent, and records are taken that it does not know.
pub screen_mono :
    (n : ℕ) (K K' : ℕ → Stamp) (sent sent' : List Message) (H H' : List Record) (i : ℕ) (b : Book)
    → ScreenOk n K sent H i b
    → ((k : ℕ) → k < n → Covers (K' k) (K k)) → ((m : Message) → m ∈ sent → m ∈ sent') → ((r : Record) → r ∈ H → r ∈ H')
    → ((r : Record) → r ∈ H' → (r ∈ H) ⊎ (part (known b) r.origin < r.number)) → ScreenOk n K' sent' H' i b
screen_mono n K K' sent sent' H H' i b o rise more grow from =
    record {
      book-sound = o.book-sound;
      mine = o.mine;
      size = o.size;
      own-most = λ k h. omega (arith, o.own-most k h, rise k h k);
      rows_true = λ j h k. omega (arith, o.rows_true j h k, rise j h k);
      rows-sent = λ j h d. either (o.rows-sent j h d) (λ z. inl z) (λ w. inr (w.0, more w.0 w.1, w.2, w.3));
      log-taken = λ r m. grow r (o.log-taken r m);
      kept = λ r m h. either (from r m) (λ u. o.kept r u h) (λ u. absurd (omega arith));
      counted-taken = λ t m. back (o.counted-taken t m);
      taken-counted = λ r m a t u. o.taken-counted r (stays r m a) a t u;
      value-over = λ r m a. o.value-over r (stays r m a) a;
      value_under = λ s f. o.value_under s (λ r m a. f r (grow r m) a);
    }
  where
    back : {t : Tap} → Tapped H (ready b) t → Tapped H' (ready b) t
    back w = (w.0, grow w.0 w.1, w.2, w.3)

    -- a record applied on a screen was taken before
    stays : (r : Record) → r ∈ H' → T (is_applied (ready b) r) → r ∈ H
    stays r m a = either (from r m) (λ u. u) (λ u. absurd (omega (arith, applied-here b r a)))

pub sent_mono :
    (n : ℕ) (K K' : ℕ → Stamp) (H H' : List Record) (m : Message) → SentOk n K H m
    → ((k : ℕ) → k < n → Covers (K' k) (K k)) → ((r : Record) → r ∈ H → r ∈ H')
    → ((r : Record) → r ∈ H' → (r ∈ H) ⊎ (part m.stamp r.origin < r.number)) → SentOk n K' H' m
sent_mono n K K' H H' m o rise grow from =
    record {
      fits = o.fits;
      size = o.size;
      from = o.from;
      old = λ k. omega (arith, o.old k, rise m.sender o.from k);
      only-taken = λ r u. grow r (o.only-taken r u);
      whole = λ r u h. either (from r u)
          (λ v. either (o.whole r v h) (λ w. inl w) (λ w. inr (λ i l. omega (arith, w i l, rise i l r.origin))))
          (λ v. absurd (omega arith));
    }

pub put_either : {A : Type 0} (books : ℕ → A) (i : ℕ) (b : A) (j : ℕ)
    → ((j ≡ i) × (put books i b j ≡ b)) ⊎ ((j ≢ i) × (put books i b j ≡ books j))
unfolding put
put_either books i b j =
    either (same_or_not j i) (λ e. inl (e, ap (λ (c : Bool). cond c b (books j)) (is_true (eqb j i) (eq→eqb j i e))))
    (λ d. inr (
      d,
      ap (λ (c : Bool). cond c b (books j))
          (is_false (eqb j i) (not-from (eqb j i) (λ t. d (eqb→eq j i t)))),
    ))

-- what is put where it was
pub put_back : {A : Type 0} (f : ℕ → A) (i : ℕ) → put f i (f i) ≡ f
put_back f i = λ j. λ k. either (put_either f i (f i) k) (λ p. p.1 ∙ ap f (sym p.0)) (λ p. p.1) j

-- What a step at screen i has seen to, beside `Ready`: the records that came are taken, and so on.
pub record Onward (n : ℕ) (h : House) (i : ℕ) (rows : List Stamp) (new : List Record) (history' : List Record) : Type 0
  where
    pub here_in : i < n
    pub ready : Ready (h.book i) rows new
    pub grow : (r : Record) → r ∈ h.history → r ∈ history'
    pub come : (r : Record) → r ∈ new → r ∈ history'
    pub from : (r : Record) → r ∈ history' → (r ∈ h.history) ⊎ ((r ∈ new) × (r.origin ≡ i))
    pub others-most : (k : ℕ) → k < n → k ≢ i → part (get_or rows (h.book i).me []) k ≤ part (known_of h k) k
    pub rows_true : (j : ℕ) → j < n → j ≢ i → Covers (known_of h j) (get_or rows j [])
    pub rows-sent : (j : ℕ) → j < n → j ≢ i
        → ((k : ℕ) → part (get_or rows j []) k ≡ 0)
        ⊎ ((m : Message) × (m ∈ h.sent) × (m.sender ≡ j) × (m.stamp ≡ get_or rows j []))

module _ (n : ℕ) (h : House) (v : Inv n h) (i : ℕ) (rows : List Stamp) (new : List Record) (history' : List Record)
    (w : Onward n h i rows new history') where
  abbrev b : Book
  b = h.book i

  abbrev b' : Book
  b' = settle (h.book i) rows new

  abbrev now : Stamp
  now = get_or rows (h.book i).me []

  abbrev h' : House
  h' = record { book = put h.book i b'; sent = h.sent; history = history' }

  ok : ScreenOk n (known_of h) h.sent h.history i b
  ok = v.screens i w.here_in

  now-me : now ≡ get_or rows i []
  now-me = ap (λ (k : ℕ). get_or rows k []) ok.mine

  pub known_either : (k : ℕ) → ((k ≡ i) × (known_of h' k ≡ now)) ⊎ ((k ≢ i) × (known_of h' k ≡ known_of h k))
  known_either k = either (put_either h.book i b' k)
      (λ e. inl (e.0, ap known e.1 ∙ known-now b rows new ok.book-sound w.ready))
      (λ e. inr (e.0, ap known e.1))

  now-rise : Covers now (known b)
  now-rise k = known-rise b rows new ok.book-sound w.ready k

  pub known_grows : (k : ℕ) → k < n → Covers (known_of h' k) (known_of h k)
  known_grows k u j = either (known_either k)
      (λ e. omega (arith, ap (λ (s : Stamp). part s j) e.1, now-rise j, ap (λ (x : ℕ). part (known_of h x) j) e.0))
      (λ e. omega (arith, ap (λ (s : Stamp). part s j) e.1))

  -- a record that came at screen i is above all that i had taken
  unowned : (r s : Record) → r ∈ h.history → s ∈ new → s.origin ≡ i → r.origin ≡ s.origin → r.number < s.number
  unowned r s m u e f =
      omega (
        arith,
        v.taken.owned r m,
        w.ready.above s u,
        ap (λ (k : ℕ). part (known_of h k) r.origin) (f ∙ e),
        ap (λ (k : ℕ). part (known b) k) f,
      )

  one' : (r s : Record) → r ∈ history' → s ∈ history' → r.origin ≡ s.origin → r.number ≡ s.number → r ≡ s
  one' r s m u e f =
      either (w.from r m)
      (λ a. either (w.from s u) (λ c. v.taken.one r s a c e f)
      (λ c. absurd (omega (arith, unowned r s a c.0 c.1 e))))
      (λ a. either (w.from s u) (λ c. absurd (omega (arith, unowned s r c a.0 a.1 (sym e))))
      (λ c. rising-one place new w.ready.order a.0 c.0 (ap₂ (λ (x y : ℕ). x ∷ y ∷ []) e f)))

  obey' : (r : Record) → r ∈ history' → T (record_fits body_fits n r)
  obey' r m = either (w.from r m) (λ a. v.taken.obey r a)
      (λ a. subst (λ (k : ℕ). T (record_fits body_fits k r)) ok.size (w.ready.obey r a.0))

  no_gap' : (k q : ℕ) → k < n → part (known b) k ≤ q → q < part now k → T (has new k (suc q))
  no_gap' k q l lo hi = w.ready.no_gap k q (omega (arith, ok.size)) lo hi

  taken' : TakenOk n (known_of h') history'
  taken' =
      record {
        one = one';
        obey = obey';
        owned = λ r m. either (w.from r m)
            (λ a. omega (
              arith,
              v.taken.owned r a,
              known_grows r.origin (obeys body_fits n r (obey' r m)).origin_lt r.origin,
            ))
            (λ a. owned-new r a.0 a.1);
        some = λ k q l u. some' k q l u;
      }
    where
      owned-new : (r : Record) → r ∈ new → r.origin ≡ i → r.number ≤ part (known_of h' r.origin) r.origin
      owned-new r m e = either (known_either r.origin)
          (λ f. omega (arith, w.ready.reached r m, ap (λ (s : Stamp). part s r.origin) f.1))
          (λ f. absurd (f.0 e))

      old : {k q : ℕ} → ((r : Record) × (r ∈ h.history) × (r.origin ≡ k) × (r.number ≡ suc q))
          → (r : Record) × (r ∈ history') × (r.origin ≡ k) × (r.number ≡ suc q)
      old x = (x.0, w.grow x.0 x.1, x.2, x.3)

      fresh : {k q : ℕ} → ((r : Record) × (r ∈ new) × (r.origin ≡ k) × (r.number ≡ suc q))
          → (r : Record) × (r ∈ history') × (r.origin ≡ k) × (r.number ≡ suc q)
      fresh x = (x.0, w.come x.0 x.1, x.2, x.3)

      some' : (k q : ℕ) → k < n → q < part (known_of h' k) k
          → (r : Record) × (r ∈ history') × (r.origin ≡ k) × (r.number ≡ suc q)
      some' k q l u =
          either (tell (ltb q (part (known_of h k) k)))
          (λ t. old (v.taken.some k q l (ltb→lt q (part (known_of h k) k) t)))
          (λ t. either (known_either k)
          (λ e. fresh (has-at new k (suc q)
          (no_gap' k q l (omega (
            arith,
            nltb→le q (part (known_of h k) k) t,
            ap (λ (x : ℕ). part (known_of h x) k) e.0,
          )) (omega (arith, ap (λ (s : Stamp). part s k) e.1)))))
          (λ e. absurd (omega (arith, nltb→le q (part (known_of h k) k) t, ap (λ (s : Stamp). part s k) e.1))))

  -- a taken record that screen i now knows is gathered, or was known and could go
  reach :
      (r : Record) → r ∈ history' → r.number ≤ part now r.origin
      → (r ∈ gathered new b.log) ⊎ ((r ∈ h.history) × T (may_go (ready b) b.table r))
  reach r m u =
      either (tell (ltb (part (known b) r.origin) r.number))
      (λ t. inl (new-gathered b rows new ok.book-sound w.ready r
      (found (has-at new r.origin (suc (r.number - 1))
      (no_gap' r.origin (r.number - 1) (obeys body_fits n r (obey' r m)).origin_lt
      (omega (arith, ltb→lt (part (known b) r.origin) r.number t))
      (omega (arith, (obeys body_fits n r (obey' r m)).number_pos)))))))
      (λ t. either (w.from r m)
      (λ a. either (ok.kept r a (nltb→le (part (known b) r.origin) r.number t))
      (λ c. inl ((put-log new b.log).stays r c)) (λ c. inr (a, c)))
      (λ a. inl (new-gathered b rows new ok.book-sound w.ready r a.0)))
    where
      found : ((z : Record) × (z ∈ new) × (z.origin ≡ r.origin) × (z.number ≡ suc (r.number - 1))) → r ∈ new
      found x = subst (λ (y : Record). y ∈ new)
          (one' x.0 r (w.come x.0 x.1) m x.2
          (omega (arith, x.3, (obeys body_fits n r (obey' r m)).number_pos))) x.1

  gathered-taken : (r : Record) → r ∈ gathered new b.log → r ∈ history'
  gathered-taken r m = either ((put-log new b.log).from r m) (λ a. w.come r a) (λ a. w.grow r (ok.log-taken r a))

  -- what is applied after the step is known, and what was applied before it still is
  known_in : (r : Record) → T (is_applied (ready b') r) → r.number ≤ part now r.origin
  known_in r a =
      let same = known-now b rows new ok.book-sound w.ready in
      omega (arith, applied-here b' r a, ap (λ (s : Stamp). part s r.origin) same)

  riper : (r : Record) → T (is_applied (ready b) r) → T (is_applied (ready b') r)
  riper r a = applied_mono (ready b) (ready b') r (ready-rise b rows new ok.book-sound w.ready) a

  screen-here : ScreenOk n (known_of h') h.sent history' i b'
  unfolding settle known row
  screen-here =
      record {
        book-sound = settle-sound b rows new ok.book-sound w.ready;
        mine = ok.mine;
        size = ok.size;
        own-most = λ k l. either (known_either k) (λ e. omega (arith, ap (λ (s : Stamp). part s k) e.1))
            (λ e. omega (arith, ap (λ (s : Stamp). part s k) e.1, w.others-most k l e.0));
        rows_true = λ j l k. either (known_either j)
            (λ e. omega (
              arith,
              ap (λ (s : Stamp). part s k) e.1,
              ap (λ (s : Stamp). part s k) now-me,
              ap (λ (x : ℕ). part (get_or rows x []) k) e.0,
            ))
            (λ e. omega (arith, ap (λ (s : Stamp). part s k) e.1, w.rows_true j l e.0 k));
        rows-sent = λ j l d. w.rows-sent j l d;
        log-taken = λ r m. gathered-taken r (log-from b rows new ok.book-sound w.ready r m).0;
        kept = λ r m u. either (reach r m u) (λ g. log_or-gone b rows new ok.book-sound w.ready r g)
            (λ g. inr (go-rise b rows new ok.book-sound w.ready r g.1));
        counted-taken = λ t m. either (counted-from b rows new ok.book-sound w.ready t m)
            (λ a. old (ok.counted-taken t a)) (λ a. (a.0, gathered-taken a.0 a.1, a.2, a.3));
        taken-counted = λ r m a t u. either (reach r m (known_in r a))
            (λ g. counted-now b rows new ok.book-sound w.ready r g a t u)
            (λ g. counted-old b rows new ok.book-sound w.ready t
            (ok.taken-counted r g.0 (go-applied (ready b) b.table r g.1) t u));
        value-over = λ r m a. either (reach r m (known_in r a))
            (λ g. value-now b rows new ok.book-sound w.ready r g a)
            (λ g k. let was = ok.value-over r g.0 (go-applied (ready b) b.table r g.1) k in
            omega (arith, value-old b rows new ok.book-sound w.ready k, was));
        value_under = λ s f.
            value_least b rows new ok.book-sound w.ready s (λ r m a. f r (gathered-taken r m) a)
            (ok.value_under s (λ r m a. f r (w.grow r m) (riper r a)));
      }
    where
      old : {t : Tap} → Tapped h.history (ready b) t → Tapped history' (ready b') t
      old x = (x.0, w.grow x.0 x.1, riper x.0 x.2, x.3)

  pub advance : Inv n h'
  advance =
      record {
        screens = λ j l. either (put_either h.book i b' j)
            (λ e. subst (λ (x : Book). ScreenOk n (known_of h') h.sent history' j x) (sym e.1)
            (subst (λ (k : ℕ). ScreenOk n (known_of h') h.sent history' k b') (sym e.0) screen-here))
            (λ e. subst (λ (x : Book). ScreenOk n (known_of h') h.sent history' j x) (sym e.1)
            (screen_mono n (known_of h) (known_of h') h.sent h.sent h.history history' j (h.book j)
            (v.screens j l) known_grows (λ m u. u) w.grow
            (λ r m. either (w.from r m) (λ a. inl a)
            (λ a. inr (omega (
              arith,
              (v.screens j l).own-most i w.here_in,
              w.ready.above r a.0,
              ap (λ (k : ℕ). part (known b) k) a.1,
              ap (λ (k : ℕ). part (known_of h j) k) a.1,
            ))))));
        messages = λ m u.
            sent_mono n (known_of h) (known_of h') h.history history' m (v.messages m u) known_grows w.grow
            (λ r x. either (w.from r x) (λ a. inl a)
            (λ a. inr (omega (
              arith,
              (v.messages m u).old r.origin,
              (v.screens m.sender (v.messages m u).from).own-most i w.here_in,
              w.ready.above r a.0,
              ap (λ (k : ℕ). part (known b) k) a.1,
              ap (λ (k : ℕ). part (known_of h m.sender) k) a.1,
            ))));
        chain = v.chain;
        taken = taken';
      }
