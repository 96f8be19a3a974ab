-- Every run of a house keeps the invariant. Assumes nothing.
use Prim.Native.Nat.{ℕ, ◌≤◌, ◌<◌, suc}
use native.Mathlib.Omega.{arith}
use mathlib.Core.Path.{refl, ◌≡◌, ◌∙◌, ap, sym, ap₂, subst}
use mathlib.Core.Logic.{inl, inr, ◌⊎◌, ◌≢◌}
use mathlib.Core.Bool.{not, Bool, true, false, cond}
use mathlib.Core.List.Memᴰ
use mathlib.Core.List.{[], List, ◌∷◌, ◌++◌}
use lib.Dec.{T}
use lib.ListN.{get_or, length}
use Rattle.lists.specs.TestLaws.{none_in, either, is_false, here, there, ◌∈◌}
use Rattle.lists.proofs.ElementLaws.{same_or_not}
use Rattle.limits.specs.Limits.{fewest, most}
use Rattle.stamp.specs.Laws.{zeros-part, part-other, part-merge, Covers}
use Rattle.stamp.specs.Stamp.{part, Stamp}
use Rattle.tally.specs.Body.{Body, says}
use Rattle.ledger.specs.LimitLaws.{range-from}
use Rattle.ledger.specs.Message.{Message}
use Rattle.ledger.specs.Record.{Record, stamp_of, may_go}
use Rattle.ledger.proofs.RecordLaws.{everywhere-at, go-everywhere}
use Rattle.meaning.proofs.AnswerLaws.{ask-keeps}
use Rattle.meaning.specs.Book.{fresh, known, ready, row, Book}
use Rattle.meaning.specs.Reply.{taken, Reply, is_taken}
use Rattle.meaning.proofs.SettleLaws.{value-old}
use Rattle.meaning.specs.BookLaws.{fresh-sound, fresh-known, fresh-row, send-fits}
use Rattle.meaning.specs.Request.{Request, tapped, asked, told, makes, step}
use Rattle.meaning.specs.Step.{tap_step, Outcome, new_record, own_rows, take_book, take_out, ask, send}
use Rattle.meaning.specs.Step.{gossip_rows, new_ones, hear_book, hear_out}
use Rattle.meaning.specs.Done.{TakeDone, GossipDone}
use Rattle.meaning.proofs.StepLaws.{Stopped, take-ready, new-origin, own-now, own_row}
use Rattle.meaning.proofs.StepLaws.{gossip-ready, new_ones_lem, gossip-now, gossip-row, tap_cases, gossip_cases}
use Rattle.house.specs.House.{open_house, House, put, grown, MayCome, Step, asks, sends, after_request, after_send}
use Rattle.house.specs.House.{onward, Run, opened}
use Rattle.house.proofs.Invariant.{ScreenOk, Inv, put_either, put_back, Onward, known_of, SentOk, screen_mono}
use Rattle.house.proofs.Invariant.{advance, known_grows}

screen-fresh : (n : ℕ) → fewest ≤ n → n ≤ most → (i : ℕ) → i < n
    → ScreenOk n (λ k. known (fresh k n)) [] [] i (fresh i n)
unfolding fresh
screen-fresh n lo hi i h =
    record {
      book-sound = fresh-sound i n (range-from i n lo hi h);
      mine = refl;
      size = refl;
      own-most = λ k l. omega (arith, fresh-known i n k);
      rows_true = λ j l k. omega (arith, fresh-row i n j k);
      rows-sent = λ j l d. inl (λ k. fresh-row i n j k);
      log-taken = λ r m. none_in m;
      kept = λ r m. none_in m;
      counted-taken = λ t m. none_in m;
      taken-counted = λ r m. none_in m;
      value-over = λ r m. none_in m;
      value_under = λ s f k. omega (arith, zeros-part k);
    }

start : (n : ℕ) → fewest ≤ n → n ≤ most → Inv n (open_house n)
unfolding open_house
start n lo hi =
    record {
      screens = λ i h. screen-fresh n lo hi i h;
      messages = λ m u. none_in u;
      chain = λ m m' u. none_in u;
      taken = record {
        one = λ r s m. none_in m;
        obey = λ r m. none_in m;
        owned = λ r m. none_in m;
        some = λ k q l u. absurd (omega (arith, fresh-known k n k));
      };
    }

-- the history after a reply that is not Taken, by no record, and by one that is taken
grown-not : (r : Reply) (made hs : List Record) → T (not (is_taken r)) → grown r made hs ≡ hs
unfolding grown
grown-not r made hs t = ap (λ (c : Bool). cond c (made ++ hs) hs) (is_false (is_taken r) t)

grown-none : (r : Reply) (hs : List Record) → grown r [] hs ≡ hs
unfolding grown
grown-none r hs = go (is_taken r)
  where
    go : (c : Bool) → cond c hs hs ≡ hs
    go true = refl
    go false = refl

grown-taken : (s : Stamp) (x : Record) (hs : List Record) → grown (taken s) (x ∷ []) hs ≡ x ∷ hs
unfolding grown
grown-taken s x hs = refl

abbrev pub house_of : (ℕ → Book) → List Message → List Record → House
house_of books sent history = record { book = books; sent = sent; history = history }

-- what a request that makes these records comes to
abbrev reached : House → ℕ → List Record → Outcome → House
reached h i made o = house_of (put h.book i o.book) h.sent (grown o.reply made h.history)

-- one that is stopped leaves the house as it was
reached-stays : (h : House) (i : ℕ) (made : List Record) (o : Outcome) → Stopped (h.book i) o → reached h i made o ≡ h
reached-stays h i made o w =
    ap (reached h i made) w.2
    ∙ ap₂ (λ (books : ℕ → Book) (hs : List Record). house_of books h.sent hs) (put_back h.book i)
    (grown-not w.0 made h.history w.1)

abbrev pub taken-house : House → ℕ → Body → Stamp → House
taken-house h i x l =
    record {
      book = put h.book i (take_book (h.book i) x l);
      sent = h.sent;
      history = new_record (h.book i) x l ∷ h.history;
    }

took-house : (h : House) (i : ℕ) (x : Body) (l : Stamp)
    → reached h i (new_record (h.book i) x l ∷ []) (take_out (h.book i) x l) ≡ taken-house h i x l
took-house h i x l =
    let r : Record = new_record (h.book i) x l in
    ap (λ (hs : List Record). house_of (put h.book i (take_book (h.book i) x l)) h.sent hs)
    (grown-taken (stamp_of r) r h.history)

-- so does one that makes no record and leaves the book
kept-stays : (h : House) (i : ℕ) (r : Reply) → reached h i [] (record { reply = r; book = h.book i }) ≡ h
kept-stays h i r =
    ap₂ (λ (books : ℕ → Book) (hs : List Record). house_of books h.sent hs) (put_back h.book i)
    (grown-none r h.history)

question-stays : (h : House) (i p : ℕ) (l : Stamp) → reached h i [] (ask (h.book i) p l) ≡ h
question-stays h i p l =
    let o = ask (h.book i) p l in
    ap (λ (b : Book). reached h i [] (record { reply = o.reply; book = b })) (ask-keeps (h.book i) p l)
    ∙ kept-stays h i o.reply

abbrev heard-house : House → ℕ → Message → House
heard-house h i m = house_of (put h.book i (hear_book (h.book i) m)) h.sent h.history

told-house : (h : House) (i : ℕ) (m : Message) → reached h i [] (hear_out (h.book i) m) ≡ heard-house h i m
told-house h i m =
    ap (λ (hs : List Record). house_of (put h.book i (hear_book (h.book i) m)) h.sent hs)
    (grown-none (hear_out (h.book i) m).reply h.history)

-- a body that is taken
pub take-onward :
    (n : ℕ) (h : House) → Inv n h → (i : ℕ) → i < n → (x : Body) (l : Stamp) → TakeDone (h.book i) x l
    → Onward n h i (own_rows (h.book i)) (new_record (h.book i) x l ∷ []) (new_record (h.book i) x l ∷ h.history)
take-onward n h v i u x l d =
    record {
      here_in = u;
      ready = take-ready b x l d;
      grow = λ r m. there m;
      come = λ r m.
          either (Memᴰ.cases_cons m) (λ e. subst (λ (z : Record). z ∈ rec ∷ h.history) (sym e) here)
          (λ z. none_in z);
      from = λ r m.
          either (Memᴰ.cases_cons m)
          (λ e. inr (subst (λ (z : Record). z ∈ rec ∷ []) (sym e) here, ap (λ (z : Record). z.origin) e ∙ rec-mine))
          (λ z. inl z);
      others-most = λ k y d'.
          let other = part-other (known b) b.me (suc (part (known b) b.me)) k (λ e. d' (e ∙ ok.mine)) in
          omega (arith, ap (λ (s : Stamp). part s k) (own-now b x l d), other, ok.own-most k y);
      rows_true = λ j y d' k.
          either (own_row b x l d j) (λ e. absurd (d' (e.0 ∙ ok.mine)))
          (λ e. omega (arith, ap (λ (s : Stamp). part s k) e, ok.rows_true j y k));
      rows-sent = λ j y d'.
          either (own_row b x l d j) (λ e. absurd (d' (e.0 ∙ ok.mine)))
          (λ e. either (ok.rows-sent j y d') (λ z. inl (λ k. ap (λ (s : Stamp). part s k) e ∙ z k))
          (λ w. inr (w.0, w.1, w.2, w.3 ∙ sym e)));
    }
  where
    b : Book
    b = h.book i

    rec : Record
    rec = new_record b x l

    ok : ScreenOk n (known_of h) h.sent h.history i b
    ok = v.screens i u

    rec-mine : rec.origin ≡ i
    rec-mine = new-origin b x l ∙ ok.mine

-- a message that is taken
pub gossip-onward :
    (n : ℕ) (h : House) → Inv n h → (i : ℕ) → i < n → (m : Message) → m ∈ h.sent → GossipDone (h.book i) m
    → Onward n h i (gossip_rows (h.book i) m) (new_ones (h.book i) m) h.history
gossip-onward n h v i u m x d =
    record {
      here_in = u;
      ready = gossip-ready b m d;
      grow = λ r y. y;
      come = λ r y. sent.only-taken r (new_ones_lem b m r y).0;
      from = λ r y. inl y;
      others-most = λ k y d'. omega (
        arith,
        ap (λ (s : Stamp). part s k) (gossip-now b m d),
        part-merge (known b) m.stamp k,
        ok.own-most k y,
        sent.old k,
        (v.screens m.sender sent.from).own-most k y,
      );
      rows_true = λ j y d' k. either (gossip-row b m d j) (λ e. absurd (d' (e.0 ∙ ok.mine)))
          (λ w. either w (λ e. omega (
            arith,
            ap (λ (s : Stamp). part s k) e.1,
            sent.old k,
            ap (λ (z : ℕ). part (known_of h z) k) e.0,
          ))
          (λ e. omega (arith, ap (λ (s : Stamp). part s k) e, ok.rows_true j y k)));
      rows-sent = λ j y d'. either (gossip-row b m d j) (λ e. absurd (d' (e.0 ∙ ok.mine)))
          (λ w. either w (λ e. inr (m, x, sym e.0, sym e.1))
          (λ e. either (ok.rows-sent j y d') (λ z. inl (λ k. ap (λ (s : Stamp). part s k) e ∙ z k))
          (λ z. inr (z.0, z.1, z.2, z.3 ∙ sym e))));
    }
  where
    b : Book
    b = h.book i

    ok : ScreenOk n (known_of h) h.sent h.history i b
    ok = v.screens i u

    sent : SentOk n (known_of h) h.history m
    sent = v.messages m x

-- a message that is sent
send-from : (b : Book) → (send b).sender ≡ b.me
unfolding send
send-from b = refl

send-stamp : (b : Book) (k : ℕ) → part (send b).stamp k ≡ part (known b) k
unfolding send
send-stamp b k = refl

rows-true-at : (b : Book) (j : ℕ) (s : Stamp) → Covers s (row b j) → Covers s (get_or b.table j [])
unfolding row
rows-true-at b j s c = c

-- a record that may go is known by every screen
pub gone-known :
    (n : ℕ) (h : House) → Inv n h → (i : ℕ) → i < n
    → (r : Record) → T (may_go (ready (h.book i)) (h.book i).table r)
    → (k : ℕ) → k < n → r.number ≤ part (known_of h k) r.origin
gone-known n h v i u r g k l =
    omega (
      arith,
      everywhere-at b.table r.origin r.number (go-everywhere (ready b) b.table r g) k rows,
      rows-true-at b k (known_of h k) (ok.rows_true k l) r.origin,
    )
  where
    b : Book
    b = h.book i

    ok : ScreenOk n (known_of h) h.sent h.history i b
    ok = v.screens i u

    rows : k < length b.table
    rows = omega (arith, ok.book-sound.rows, ok.size)

send_ok : (n : ℕ) (h : House) → Inv n h → (i : ℕ) → i < n → SentOk n (known_of h) h.history (send (h.book i))
unfolding send
send_ok n h v i u =
    record {
      fits = send-fits (h.book i) ok.book-sound;
      size = ok.size;
      from = omega (arith, ok.mine);
      old = λ k. omega (arith, ap (λ (j : ℕ). part (known_of h j) k) ok.mine);
      only-taken = ok.log-taken;
      whole = λ r m l. either (ok.kept r m l) (λ x. inl x) (λ x. inr (gone-known n h v i u r x));
    }
  where
    ok : ScreenOk n (known_of h) h.sent h.history i (h.book i)
    ok = v.screens i u

send_inv : (n : ℕ) (h : House) → Inv n h → (i : ℕ) → i < n → Inv n (after_send h i)
unfolding after_send
send_inv n h v i u =
    record {
      screens = λ j l.
          screen_mono n (known_of h) (known_of h) h.sent (send (h.book i) ∷ h.sent) h.history h.history j
          (h.book j) (v.screens j l) (λ k x c. omega arith) (λ m x. there x) (λ r x. x) (λ r x. inl x);
      messages = λ m x. either (Memᴰ.cases_cons x)
          (λ e. subst (λ (y : Message). SentOk n (known_of h) h.history y) (sym e) (send_ok n h v i u))
          (λ y. v.messages m y);
      chain = λ m m' x y e. link m m' (Memᴰ.cases_cons x) (Memᴰ.cases_cons y) e;
      taken = v.taken;
    }
  where
    covered : (m m' : Message) → m ≡ send (h.book i) → m' ∈ h.sent → m.sender ≡ m'.sender
        → Covers m.stamp m'.stamp
    covered m m' e x f k =
        omega (
          arith,
          (v.messages m' x).old k,
          send-stamp (h.book i) k,
          ap (λ (y : Message). part y.stamp k) e,
          ap (λ (j : ℕ). part (known_of h j) k)
              (sym f ∙ ap (λ (y : Message). y.sender) e ∙ send-from (h.book i) ∙ (v.screens i u).mine),
        )

    link : (m m' : Message) → (m ≡ send (h.book i)) ⊎ (m ∈ h.sent) → (m' ≡ send (h.book i)) ⊎ (m' ∈ h.sent)
        → m.sender ≡ m'.sender → Covers m.stamp m'.stamp ⊎ Covers m'.stamp m.stamp
    link m m' (inl p) (inl q) e = inl (λ k. omega (arith, ap (λ (y : Message). part y.stamp k) (p ∙ sym q)))
    link m m' (inl p) (inr y) e = inl (covered m m' p y e)
    link m m' (inr x) (inl q) e = inr (covered m' m q x (sym e))
    link m m' (inr x) (inr y) e = v.chain m m' x y e

-- What a step comes to: nothing, a message sent, or one book put in order.
pub data Course (n : ℕ) (h : House) : House → Type 0 where
  stays : Course n h h
  sent-one : (i : ℕ) → i < n → Course n h (after_send h i)
  took :
      (i : ℕ) → i < n → (x : Body) (l : Stamp) → TakeDone (h.book i) x l → Course n h (taken-house h i x l)
  heard : (i : ℕ) → i < n → (m : Message) → m ∈ h.sent → GossipDone (h.book i) m → Course n h (heard-house h i m)

-- a request is stopped and leaves the house as it was, or goes its own way
either_course : (n : ℕ) {h h' h'' : House} {S D : Type 0} → S ⊎ D → (S → h' ≡ h) → (D → h' ≡ h'') → (D → Course n h h'')
    → Course n h h'
either_course n {h} c s e d =
    either c (λ w. subst (Course n h) (sym (s w)) stays) (λ w. subst (Course n h) (sym (e w)) (d w))

request_course : (n : ℕ) {h : House} (i : ℕ) → i < n → (r : Request) → MayCome h r
    → Course n h (reached h i (makes (h.book i) r) (step (h.book i) r))
request_course n {h} i u (tapped t l) c =
    let made = new_record (h.book i) (says t) l ∷ [] in
    either_course n (tap_cases (h.book i) t l) (reached-stays h i made (tap_step (h.book i) t l))
    (λ w. ap (reached h i made) w.1 ∙ took-house h i (says t) l) (λ w. took i u (says t) l w.0)
request_course n {h} i u (asked p l) c = subst (Course n h) (sym (question-stays h i p l)) stays
request_course n {h} i u (told m) c =
    either_course n (gossip_cases (h.book i) m) (λ w. ap (reached h i []) w.2 ∙ kept-stays h i w.0)
    (λ w. ap (reached h i []) w.1 ∙ told-house h i m) (λ w. heard i u m c w.0)

pub course : (n : ℕ) {h h' : House} → Step n h h' → Course n h h'
unfolding after_request
course n (asks i u r c) = request_course n i u r c
course n (sends i u) = sent-one i u

course_inv : (n : ℕ) {h h' : House} → Inv n h → Course n h h' → Inv n h'
unfolding take_book hear_book
course_inv n v stays = v
course_inv n {h} v (sent-one i u) = send_inv n h v i u
course_inv n {h} v (took i u x l d) =
    let new : Record = new_record (h.book i) x l in
    advance n h v i (own_rows (h.book i)) (new ∷ []) (new ∷ h.history) (take-onward n h v i u x l d)
course_inv n {h} v (heard i u m x d) =
    let w = gossip-onward n h v i u m x d in
    advance n h v i (gossip_rows (h.book i) m) (new_ones (h.book i) m) h.history w

pub step_inv : (n : ℕ) {h h' : House} → Inv n h → Step n h h' → Inv n h'
step_inv n v s = course_inv n v (course n s)

pub run_inv : (n : ℕ) → fewest ≤ n → n ≤ most → {h : House} → Run n h → Inv n h
run_inv n lo hi opened = start n lo hi
run_inv n lo hi (onward r s) = step_inv n (run_inv n lo hi r) s

-- known stamps only rise
course-rise : (n : ℕ) {h h' : House} → Inv n h → Course n h h' → (k : ℕ) → k < n → Covers (known_of h' k) (known_of h k)
unfolding after_send take_book hear_book
course-rise n v stays k y = λ c. omega arith
course-rise n v (sent-one i u) k y = λ c. omega arith
course-rise n {h} v (took i u x l d) k y =
    let new : Record = new_record (h.book i) x l in
    known_grows n h v i (own_rows (h.book i)) (new ∷ []) (new ∷ h.history) (take-onward n h v i u x l d) k y
course-rise n {h} v (heard i u m x d) k y =
    let w = gossip-onward n h v i u m x d in
    known_grows n h v i (gossip_rows (h.book i) m) (new_ones (h.book i) m) h.history w k y

pub step-rise : (n : ℕ) {h h' : House} → Inv n h → Step n h h' → (k : ℕ) → k < n → Covers (known_of h' k) (known_of h k)
step-rise n v s k y = course-rise n v (course n s) k y

-- value stamps only rise
put-rise : (books : ℕ → Book) (i : ℕ) (b : Book) → Covers b.value (books i).value → (k : ℕ)
    → Covers (put books i b k).value (books k).value
put-rise books i b c k x =
    either (put_either books i b k)
    (λ e. omega (
      arith,
      c x,
      ap (λ (y : Book). part y.value x) e.1,
      ap (λ (j : ℕ). part (books j).value x) e.0,
    ))
    (λ e. omega (arith, ap (λ (y : Book). part y.value x) e.1))

course-value : (n : ℕ) {h h' : House} → Course n h h' → (k : ℕ) → Covers (h'.book k).value (h.book k).value
unfolding after_send take_book hear_book
course-value n stays k = λ c. omega arith
course-value n (sent-one i u) k = λ c. omega arith
course-value n {h} (took i u x l d) k =
    let b : Book = h.book i in
    put-rise h.book i (take_book b x l)
    (value-old b (own_rows b) (new_record b x l ∷ []) d.sound-before (take-ready b x l d)) k
course-value n {h} (heard i u m x d) k =
    let b : Book = h.book i in
    put-rise h.book i (hear_book b m)
    (value-old b (gossip_rows b m) (new_ones b m) d.sound-before (gossip-ready b m d)) k

pub step_value : (n : ℕ) {h h' : House} → Step n h h' → (k : ℕ) → Covers (h'.book k).value (h.book k).value
step_value n s k = course-value n (course n s) k

-- one screen moves at a step, and the history grows
put_other : (books : ℕ → Book) (i : ℕ) (b : Book) (j : ℕ) → j ≢ i → put books i b j ≡ books j
put_other books i b j d = either (put_either books i b j) (λ e. absurd (d e.0)) (λ e. e.1)

moved : (books : ℕ → Book) (j : ℕ) (b : Book) (i : ℕ)
    → (put books j b i ≡ books i) ⊎ ((k : ℕ) → k ≢ i → put books j b k ≡ books k)
moved books j b i = either (same_or_not i j) (λ e. inr (λ k d. put_other books j b k (λ f. d (f ∙ sym e))))
    (λ d. inl (put_other books j b i d))

course_moves : (n : ℕ) {h h' : House} → Course n h h' → (i : ℕ)
    → (h'.book i ≡ h.book i) ⊎ ((j : ℕ) → j ≢ i → h'.book j ≡ h.book j)
unfolding after_send
course_moves n stays i = inl refl
course_moves n (sent-one j u) i = inl refl
course_moves n {h} (took j u x l d) i = moved h.book j (take_book (h.book j) x l) i
course_moves n {h} (heard j u m x d) i = moved h.book j (hear_book (h.book j) m) i

pub step_moves : (n : ℕ) {h h' : House} → Step n h h' → (i : ℕ)
    → (h'.book i ≡ h.book i) ⊎ ((j : ℕ) → j ≢ i → h'.book j ≡ h.book j)
step_moves n s i = course_moves n (course n s) i

course_grows : (n : ℕ) {h h' : House} → Course n h h' → (r : Record) → r ∈ h.history → r ∈ h'.history
unfolding after_send
course_grows n stays r m = m
course_grows n (sent-one i u) r m = m
course_grows n (took i u x l d) r m = there m
course_grows n (heard i u y x d) r m = m

pub step_grows : (n : ℕ) {h h' : House} → Step n h h' → (r : Record) → r ∈ h.history → r ∈ h'.history
step_grows n s r m = course_grows n (course n s) r m
