-- Laws: the records of a message as its parts, and what their readers see to. Assumes nothing.
--     part-at      record i is the part from its own first byte
--     head-rules, part-rules
--                  the rules that a readable head, and a readable part, keep
use Rattle.std.specs.Prelude.{ℕ, suc, ◌+◌, ◌*◌, ◌<◌, ◌≡◌, ◌&&◌, List, [], ◌∷◌, T, leb, length, get_or, take, drop}
use Rattle.std.proofs.Common.{add-one, ap, ◌∙◌, drop-cons, drop-drop}
use Rattle.lists.specs.Part.{mid}
use Rattle.lists.specs.RowLaws.{length-rows, rows_at}
use Rattle.lists.specs.TestLaws.{and_l, and_r}
use Rattle.limits.specs.Limits.{log_room}
use Rattle.stamp.specs.Stamp.{Stamp, stamp_fits}
use Rattle.tally.specs.Body.{body_fits}
use Rattle.tally.specs.Tap.{tap_fits}
use Rattle.ledger.specs.Message.{in_range}
use Rattle.ledger.specs.Record.{record_fits, is_known}
use Rattle.wire.specs.Kinds.{head_kind, record_kind, record_in, stamp_at, shaped, head_long, record_long}
use Rattle.wire.specs.Read.{line_of, readable}
use Rattle.message.specs.Message.{parts_of, tap_in, record_from}
use Rattle.message.specs.Find.{part_at}

pub length-parts : (n : ℕ) (bytes : List ℕ) → length (parts_of n bytes) ≡ n
unfolding parts_of
length-parts n bytes = length-rows record_long n (drop head_long bytes)

pub part-at : (n : ℕ) (bytes : List ℕ) (i : ℕ) → i < n → get_or (parts_of n bytes) i [] ≡ part_at i bytes
unfolding parts_of part_at mid
part-at n bytes i h = rows_at record_long n (drop head_long bytes) i h
    ∙ ap (take record_long) (drop-drop (i * record_long) head_long bytes)

pub next-part : (n : ℕ) (bytes : List ℕ) (i : ℕ) → i < n
    → drop i (parts_of n bytes) ≡ part_at i bytes ∷ drop (i + 1) (parts_of n bytes)
next-part n bytes i h =
    rw add-one (drop-cons (parts_of n bytes) i [] (rw (length-parts n bytes) h)
    ∙ ap (λ (p : List ℕ). p ∷ drop (suc i) (parts_of n bytes)) (part-at n bytes i h))

-- the rules that a readable head keeps
pub head-rules :
    (bytes : List ℕ) → T (readable head_kind bytes)
    → T (in_range (get_or (line_of head_kind bytes) 1 0) (get_or (line_of head_kind bytes) 2 0))
    × T (leb (get_or (line_of head_kind bytes) 3 0) log_room)
    × T (stamp_fits (get_or (line_of head_kind bytes) 2 0) (stamp_at 4 (line_of head_kind bytes)))
unfolding readable head_kind
head-rules bytes r =
    let l = line_of head_kind bytes in
    let house = in_range (get_or l 1 0) (get_or l 2 0) in
    let few = leb (get_or l 3 0) log_room in
    let fits = stamp_fits (get_or l 2 0) (stamp_at 4 l) in
    let k = and_r (shaped 1 bytes) (house && (few && fits)) r in
    let rest = and_r house (few && fits) k in
    (and_l house (few && fits) k, and_l few fits rest, and_r few fits rest)

-- the rules that a readable part keeps
pub part-rules :
    (n : ℕ) (m : Stamp) (part : List ℕ) → T (readable (record_kind n m) part)
    → T (tap_fits (tap_in (line_of (record_kind n m) part)))
    × T (record_fits body_fits n (record_from (record_kind n m) part))
    × T (is_known m (record_from (record_kind n m) part))
unfolding readable record_kind record_from
part-rules n m part r =
    let l = line_of (record_kind n m) part in
    let tap = tap_fits (tap_in l) in
    let fits = record_fits body_fits n (record_in l) in
    let known = is_known m (record_in l) in
    let k = and_r (shaped 2 part) (tap && (fits && known)) r in
    let rest = and_r tap (fits && known) k in
    (and_l tap (fits && known) k, and_l fits known rest, and_r fits known rest)
