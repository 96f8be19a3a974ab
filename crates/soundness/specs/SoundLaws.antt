-- Laws: what is tested is what soundness says. The limit on each prompt's two counts follows from the others. Assumes
-- nothing.
--     sound_is        a book whose numbers are in range is sound exactly when its groups of clauses hold
--     lawful-words    words of the right shape, their numbers in range, are sound exactly when their pieces pass
use Rattle.std.specs.Prelude.{ℕ, zero, suc, ◌≤◌, ◌<◌, ◌+◌, ◌*◌, ◌≡◌, Bool, false, not, ◌&&◌, ◌||◌, leb, get_or}
use Rattle.std.proofs.Common.{arith, sym, ap, ◌∙◌, leb→le}
use Rattle.std.proofs.Math.Path.{refl, subst}
use Rattle.std.proofs.Math.Bool.{true, and-true, and-false}
use mathlib.Core.List.{List, [], ◌∷◌}
use borrow.Author.Tests.{eq-eqb, ne_eqb, le-leb}
use Rattle.std.proofs.Math.Dec.{T, le→leb}
use Rattle.std.proofs.Math.ListN.{length}
use Rattle.lists.specs.TestLaws.{◌∈◌, get_or_in, and_l, and_r, both, given, all_from, ◌also◌, done, every-from}
use Rattle.lists.specs.TestLaws.{same_test}
use Rattle.lists.proofs.ElementLaws.{eq→eqb, every-same}
use Rattle.lists.specs.RowLaws.{length-rows}
use Rattle.lists.specs.Rows.{rows}
use Rattle.lists.specs.Tests.{all, every}
use Rattle.limits.specs.Limits.{parts, most, log_room, book_room}
use Rattle.stamp.specs.Stamp.{Stamp, total, at_most}
use Rattle.tally.specs.Standing.{afresh, same_counts}
use Rattle.tally.proofs.StandingLaws.{counts_same, afresh-few}
use Rattle.tally.specs.Body.{body_fits}
use Rattle.tally.specs.declared.Standing.{Standing}
use Rattle.ledger.specs.Log.{all_held}
use Rattle.ledger.specs.Message.{in_range}
use Rattle.ledger.specs.Record.{is_known, is_applied, may_go, record_fits, stamp_of}
use Rattle.ledger.specs.LimitLaws.{range-me}
use Rattle.book_log.specs.Held.{holds_all}
use Rattle.book_log.proofs.HeldLaws.{all_held-climb}
use Rattle.book_log.specs.Lowest.{lowest_from, goes_by}
use Rattle.book_log.proofs.LowestLaws.{may_go_lowest}
use Rattle.book_log.specs.Region.{row_long, records_at}
use Rattle.book_log.specs.RegionLaws.{length-records}
use Rattle.taps.specs.Region.{taps_at}
use Rattle.prompts.specs.Region.{standings_at}
use Rattle.book_log.specs.RowSound.{row_sound, rows_sound_is, record_fits_is}
use Rattle.meaning.specs.Book.{Book, known, ready, row, waiting, clauses, sound}
use Rattle.meaning.specs.ReadyKnown.{ready-known}
use Rattle.lent.specs.Lay.{at_place}
use Rattle.lent.specs.Words.{Name, piece_of, rank, book_long, shape_rules, Screen, Screens, Logged, Taps, Table, Value}
use Rattle.lent.specs.Words.{Log, Counted, Prompts, piece, number_in, zero_from, book_of, in_shape, lawful}
use Rattle.lent.specs.WordsLaws.{log-few}
use Rattle.soundness.specs.Clauses.{fit_rules, within_rules, log_rules, counted_rules, region_rules, piece_rules}

-- one rule that fails settles a cascade
pub all-off : (cs : List Bool) (k : ℕ) → get_or cs k true ≡ false → all cs ≡ false
all-off [] k e = e
all-off (c ∷ cs) zero e = ap (λ (b : Bool). b && all cs) e
all-off (c ∷ cs) (suc k) e = ap (λ (b : Bool). c && b) (all-off cs k e) ∙ and-false c

module _ (b : Book) (range : T (in_range b.me b.screens)) (long : length b.table ≡ b.screens)
    (few : length b.log ≤ log_room) where
  abbrev low : Stamp
  low = lowest_from (known b) b.table

  abbrev fields_fit : Bool
  fields_fit = every (record_fits (λ _. true) b.screens) b.log

  abbrev bodies_fit : Bool
  bodies_fit = every (λ r. body_fits r.body) b.log

  abbrev none_go : Bool
  none_go = every (λ r. not (goes_by (ready b) low r)) b.log

  abbrev value_covers : Bool
  value_covers = every (λ r. not (is_applied (ready b) r) || at_most (stamp_of r) b.value) b.log

  abbrev each_sound : Bool
  each_sound = every (is_known (known b)) b.log && (fields_fit && (none_go && value_covers))

  abbrev regions : List Bool
  regions =
      region_rules b.screens (known b) (ready b) b.table b.value b.log b.counted b.prompts

  abbrev tested : List Bool
  tested = all (fit_rules b.screens b.table b.value) ∷ all regions ∷ []

  known_in : known b ∈ b.table
  unfolding known row
  known_in = get_or_in b.table b.me [] (omega (arith, range-me b.me b.screens range, long))

  -- by the lowest stamp: none may go, and no known record is missing
  goes_is : every (λ r. not (may_go (ready b) b.table r)) b.log ≡ none_go
  goes_is =
      every-same (λ r. not (may_go (ready b) b.table r)) (λ r. not (goes_by (ready b) low r)) b.log
      (λ r. ap not (may_go_lowest (known b) b.table known_in (ready b) r))

  held_is : all_held b.screens (known b) b.table b.log ≡ holds_all b.screens low (known b) b.log
  held_is = all_held-climb b.screens (known b) b.table b.log known_in

  rows_is : every (row_sound b.screens (known b) (ready b) low b.value) b.log ≡ each_sound
  rows_is = rows_sound_is b.screens (known b) (ready b) low b.value b.log

  bodies_is : every (record_fits body_fits b.screens) b.log ≡ (fields_fit && bodies_fit)
  bodies_is = record_fits_is body_fits b.screens b.log

  few-each :
      T (same_counts b.prompts (afresh b.counted))
      → T (leb (length b.counted + length (waiting b)) (total (known b)))
      → T (every (λ s. leb (s.accepts + s.declines + length (waiting b)) (total (known b))) b.prompts)
  few-each follow counted-few =
      every-from (λ s. leb (s.accepts + s.declines + length (waiting b)) (total (known b))) b.prompts
      (λ s m. le→leb (s.accepts + s.declines + length (waiting b)) (total (known b)) (each s m))
    where
      same : b.prompts ≡ afresh b.counted
      same = counts_same b.prompts (afresh b.counted) follow

      each : (s : Standing) → s ∈ b.prompts → s.accepts + s.declines + length (waiting b) ≤ total (known b)
      each s m =
          omega (
            arith,
            afresh-few b.counted s (subst (λ (xs : List Standing). s ∈ xs) same m),
            leb→le (length b.counted + length (waiting b)) (total (known b)) counted-few,
          )

  sound-tested : T (sound b) → T (all tested)
  unfolding sound clauses fit_rules region_rules within_rules log_rules counted_rules waiting
  sound-tested t =
      given (clauses b) t
      (λ in-range rows rows_fit value-fits log-order counted-order taps_fit log-room book-room below log-known log-obeys
      held stays log-counted few few-each follow value-known value-covers.
      let fitting : T (fields_fit && bodies_fit) = subst T bodies_is log-obeys in
      let none : T (none_go && value_covers) = both none_go value_covers (subst T goes_is stays) value-covers in
      let each : T each_sound =
      both (every (is_known (known b)) b.log) (fields_fit && (none_go && value_covers)) log-known
      (both fields_fit (none_go && value_covers) (and_l fields_fit bodies_fit fitting) none) in
      let bodies = and_r fields_fit bodies_fit fitting in
      all_from {cs = tested}
      (all_from {cs = fit_rules b.screens b.table b.value} (rows_fit also value-fits also done)
      also all_from {cs = regions}
      (all_from {cs = within_rules (known b) b.table b.value} (book-room also below also value-known also done)
      also all_from {cs = log_rules b.screens (known b) (ready b) low b.value b.log}
      (log-order also subst T (sym rows_is) each also bodies also subst T held_is held also done)
      also all_from {cs = counted_rules (known b) (ready b) b.log b.counted}
      (counted-order also taps_fit also log-counted also few also done)
      also follow
      also done)
      also done))

  tested-sound : T (all tested) → T (sound b)
  unfolding sound clauses fit_rules region_rules within_rules log_rules counted_rules waiting
  tested-sound t =
      given tested t
      (λ fits left.
      given (fit_rules b.screens b.table b.value) fits
      (λ rows_fit value-fits.
      given regions left
      (λ within log counted follow.
      given (within_rules (known b) b.table b.value) within
      (λ book-room below value-known.
      given (log_rules b.screens (known b) (ready b) low b.value b.log) log
      (λ log-order rows bodies held.
      given (counted_rules (known b) (ready b) b.log b.counted) counted
      (λ counted-order taps_fit log-counted few-counted.
      let each : T each_sound = subst T rows_is rows in
      let fitting = and_r (every (is_known (known b)) b.log) (fields_fit && (none_go && value_covers)) each in
      let fields = and_l fields_fit (none_go && value_covers) fitting in
      let none = and_r fields_fit (none_go && value_covers) fitting in
      all_from {cs = clauses b}
      (range
      also eq→eqb (length b.table) b.screens long
      also rows_fit
      also value-fits
      also log-order
      also counted-order
      also taps_fit
      also le→leb (length b.log) log_room few
      also book-room
      also below
      also and_l (every (is_known (known b)) b.log) (fields_fit && (none_go && value_covers)) each
      also subst T (sym bodies_is) (both fields_fit bodies_fit fields bodies)
      also subst T (sym held_is) held
      also subst T (sym goes_is) (and_l none_go value_covers none)
      also log-counted
      also few-counted
      also few-each follow few-counted
      also follow
      also value-known
      also and_r none_go value_covers none
      also done)))))))

  pub sound_is : sound b ≡ all tested
  sound_is = same_test (sound b) (all tested) sound-tested tested-sound

-- the numbers in front are within their places
pub record Numbers (ws : List ℕ) : Type 0 where
  pub screen : number_in Screen ws < number_in Screens ws
  pub screens : number_in Screens ws ≤ most
  pub logged : number_in Logged ws ≤ log_room
  pub taps : number_in Taps ws ≤ book_room

-- all that is tested of the pieces of a slice
unfoldable pub word_rules : List ℕ → List Bool
word_rules ws =
    piece_rules (number_in Screen ws) (rows parts (number_in Screens ws) (piece Table ws)) (piece Value ws)
    (records_at (number_in Logged ws) (piece Log ws)) (taps_at (number_in Taps ws) (piece Counted ws))
    (standings_at (piece Prompts ws))

module _ (ws : List ℕ) where
  pub lawful_misshapen : in_shape ws ≡ false → lawful ws ≡ false
  unfolding lawful
  lawful_misshapen e = rw e

  pub lawful_stray : in_range (number_in Screen ws) (number_in Screens ws) ≡ false → lawful ws ≡ false
  unfolding lawful sound clauses book_of
  lawful_stray e = rw e (and-false (in_shape ws))

  pub lawful-words : in_shape ws ≡ true → in_range (number_in Screen ws) (number_in Screens ws) ≡ true
      → lawful ws ≡ all (word_rules ws)
  unfolding lawful book_of word_rules piece_rules known row
  lawful-words e f =
      let range = subst T (sym f) tt in
      let shape = subst T (sym e) tt in
      let n = number_in Screens ws in
      let few : length (book_of ws).log ≤ log_room =
      omega (arith, length-records (number_in Logged ws) (piece Log ws), log-few ws shape) in
      let long = length-rows parts n (piece Table ws) in
      rw e (sound_is (book_of ws) range long few ∙ rw (ready-known (book_of ws), long))

-- the rules of a slice's shape, once it has the one length: its numbers, then its unused places
abbrev pub number_rules : List ℕ → List Bool
number_rules ws =
    leb (number_in Screens ws) most ∷ leb (number_in Logged ws) log_room ∷ leb (number_in Taps ws) book_room ∷ []

abbrev pub zero_rules : List ℕ → List Bool
zero_rules ws =
    zero_from (number_in Screens ws * parts) (piece Table ws)
    ∷ zero_from (number_in Logged ws * row_long) (piece Log ws)
    ∷ zero_from (number_in Taps ws) (piece Counted ws)
    ∷ []

three_first : (a b c d : Bool) → (a && (b && (c && d))) ≡ ((a && (b && (c && true))) && d)
three_first true true true d = refl
three_first true true false d = refl
three_first true false c d = refl
three_first false b c d = refl

module _ (ws : List ℕ) where
  pub shape-short : (length ws ≡ book_long → ⊥) → in_shape ws ≡ false
  unfolding in_shape
  shape-short n = all-off (shape_rules ws) 0 (ne_eqb (length ws) book_long n)

  pub shape-off : (n : Name) → (piece_of n).rule (λ m. piece m ws) ≡ false → in_shape ws ≡ false
  unfolding in_shape
  shape-off n e = all-off (shape_rules ws) (suc (rank n))
      (at_place (λ k. (piece_of k).rule (λ m. piece m ws)) true n ∙ e)

  pub shape_is : length ws ≡ book_long → in_shape ws ≡ (all (number_rules ws) && all (zero_rules ws))
  unfolding in_shape
  shape_is e =
      rw (eq-eqb (length ws) book_long e)
      (three_first (leb (number_in Screens ws) most) (leb (number_in Logged ws) log_room)
      (leb (number_in Taps ws) book_room) (all (zero_rules ws)))

  -- with all the others kept, that of the counted taps decides
  pub shape-last :
      length ws ≡ book_long → number_in Screens ws ≤ most → number_in Logged ws ≤ log_room
      → number_in Taps ws ≤ book_room
      → (piece_of Table).rule (λ m. piece m ws) ≡ true → (piece_of Log).rule (λ m. piece m ws) ≡ true
      → in_shape ws ≡ (piece_of Counted).rule (λ m. piece m ws)
  unfolding in_shape
  shape-last e n l t table log =
      rw (
        eq-eqb (length ws) book_long e,
        le-leb (number_in Screens ws) most n,
        le-leb (number_in Logged ws) log_room l,
        le-leb (number_in Taps ws) book_room t,
        table,
        log,
        and-true,
      )
