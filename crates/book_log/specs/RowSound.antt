-- What soundness asks of each log record alone, as one test; read off clause by clause. Assumes nothing.
--     stamp-covered   a fitting record's stamp is covered exactly as if it were applied
--     rows_sound_is    one test of all records is its four clauses, each of all records
--     record_fits_is   the field rules are those of the fields and that of the body
use Rattle.std.specs.Prelude.{ℕ, ◌<◌, ◌≡◌, refl, Bool, true, false, not, ◌&&◌, ◌||◌, List, leb, ltb}
use Rattle.std.proofs.Math.Path.{ap}
use Rattle.std.proofs.Common.{◌∙◌}
use Rattle.lists.specs.Tests.{every}
use Rattle.lists.specs.TestLaws.{same_test}
use Rattle.lists.proofs.ElementLaws.{every_and, every-same}
use Rattle.stamp.specs.Stamp.{Stamp, part, at_most, stamp_fits}
use Rattle.stamp.specs.Laws.{at_most-parts, parts-at_most}
use Rattle.ledger.specs.Record.{Record, is_known, is_applied, stamp_of, record_fits}
use Rattle.ledger.proofs.RecordLaws.{covered-applied, stamp_under}
use Rattle.book_log.specs.Lowest.{goes_by}

-- known, of fitting fields, not to go, and covered by the value stamp if it is applied
unfoldable pub row_sound : ℕ → Stamp → Stamp → Stamp → Stamp → Record → Bool
row_sound n known ready low value r =
    is_known known r
    && (record_fits (λ _. true) n r
    && (not (goes_by ready low r) && (not (is_applied ready r) || at_most (stamp_of r) value)))

pub stamp-covered : (s : Stamp) (r : Record) → part r.label r.origin < r.number
    → at_most (stamp_of r) s ≡ is_applied s r
stamp-covered s r h =
    same_test (at_most (stamp_of r) s) (is_applied s r) (λ t. covered-applied s r h (at_most-parts (stamp_of r) s t))
    (λ t. parts-at_most (stamp_of r) s (stamp_under s r t))

module _ (n : ℕ) (known ready low value : Stamp) (log : List Record) where
  abbrev stays : Record → Bool
  stays r = not (goes_by ready low r)

  abbrev covered : Record → Bool
  covered r = not (is_applied ready r) || at_most (stamp_of r) value

  pub rows_sound_is :
      every (row_sound n known ready low value) log
      ≡ (every (is_known known) log
      && (every (record_fits (λ _. true) n) log
      && (every (λ r. not (goes_by ready low r)) log
      && every (λ r. not (is_applied ready r) || at_most (stamp_of r) value) log)))
  unfolding row_sound
  rows_sound_is =
      every_and (is_known known) (λ r. record_fits (λ _. true) n r && (stays r && covered r)) log
      ∙ ap (λ (b : Bool). every (is_known known) log && b)
      (every_and (record_fits (λ _. true) n) (λ r. stays r && covered r) log
      ∙ ap (λ (b : Bool). every (record_fits (λ _. true) n) log && b) (every_and stays covered log))

last-rule : (a b c d e : Bool)
    → (a && (b && (c && (d && (e && true))))) ≡ ((a && (b && (c && (d && (true && true))))) && e)
last-rule true true true true true = refl
last-rule true true true true false = refl
last-rule true true true false e = refl
last-rule true true false d e = refl
last-rule true false c d e = refl
last-rule false b c d e = refl

pub record_fits_is : (body_fits : ℕ → Bool) (n : ℕ) (log : List Record)
    → every (record_fits body_fits n) log ≡ (every (record_fits (λ _. true) n) log && every (λ r. body_fits r.body) log)
unfolding record_fits
record_fits_is body_fits n log =
    every-same (record_fits body_fits n) (λ r. record_fits (λ _. true) n r && body_fits r.body) log
    (λ r. last-rule (ltb r.origin n) (leb 1 r.number) (ltb (part r.label r.origin) r.number)
    (stamp_fits n r.label) (body_fits r.body))
    ∙ every_and (record_fits (λ _. true) n) (λ r. body_fits r.body) log
