-- The edges of the field rules: what readers and writers take and refuse, in four tables under one claim. Assumes
-- nothing.
use Rattle.std.specs.Prelude.{ℕ, ◌+◌, ◌-◌, ◌*◌, ◌≡◌, refl, true, List, [], ◌∷◌, ◌++◌, replicate, Ok, Err}
use Rattle.lists.specs.Table.{agrees}
use Rattle.lists.specs.Tests.{numbers, keep}
use Rattle.limits.specs.Limits.{parts, word, front_ends, serials, prompt_count, showings, accept, decline, fewest, most}
use Rattle.limits.specs.Limits.{log_room}
use Rattle.stamp.specs.Parts.{parts_at, list_of}
use Rattle.stamp.specs.Stamp.{Stamp, replace, stamp_fits}
use Rattle.tally.specs.Body.{body_fits, body_of}
use Rattle.tally.specs.Tap.{tap_fits}
use Rattle.ledger.specs.Message.{in_range}
use Rattle.ledger.specs.Record.{record_fits, is_known, knows}
use Rattle.numbers.specs.Number.{number_from, bytes_of}
use Rattle.wire.specs.Refusal.{table_number}
use Rattle.wire.specs.Kinds.{part_width, bits_width, Kind, body_by, shaped, in_table, head_kind, record_kind, tap_kind}
use Rattle.wire.specs.Kinds.{question_kind, taken_kind, already_kind, verdict_kind, wait_kind, refusal_kind}
use Rattle.wire.specs.Kinds.{gossip_taken_kind, open_kind}
use Rattle.wire.specs.Read.{line_of, readable}
use Rattle.wire.specs.Write.{Output, writable, written, write_as}

-- of some values, those that a reader takes in the bytes that hold them, and a writer in its line
reads : Kind → (ℕ → List ℕ) → List ℕ → List ℕ
reads k bytes xs = keep (λ x. readable k (bytes x)) xs

takes : Kind → (ℕ → List ℕ) → List ℕ → List ℕ
takes k line xs = keep (λ x. writable k (line x)) xs

-- what a writer answers, 0 and the length or the refusal, and the output after it
outcome : Output → List ℕ
outcome o = elim o.answer [ Ok n ↦ 0 ∷ n ∷ o.bytes | Err r ↦ table_number r ∷ o.bytes ]

-- the first numbers; so many zeros
firsts : ℕ → List ℕ
firsts n = numbers 0 n

zeros : ℕ → List ℕ
zeros n = replicate n 0

-- how many bytes a stamp has
stamp_long : ℕ
stamp_long = parts * part_width

-- a stamp's bytes with one part above zero: part k is x
only : ℕ → ℕ → List ℕ
only k x = zeros (part_width * k + 3) ++ (x ∷ zeros (part_width * (parts - 1 - k)))

-- a tap's bytes by prompt, showing and answer; a record's by origin, number and label; a head's by sender, N and stamp
tapped : ℕ → ℕ → ℕ → List ℕ
tapped p h a = 5 ∷ 0 ∷ 0 ∷ 0 ∷ 1 ∷ p ∷ 0 ∷ h ∷ a ∷ []

recorded : ℕ → ℕ → List ℕ → List ℕ
recorded o q label = 2 ∷ o ∷ 0 ∷ 0 ∷ 0 ∷ q ∷ label ++ tapped 7 1 1

headed : ℕ → ℕ → List ℕ → List ℕ
headed j n stamp = 1 ∷ j ∷ n ∷ 0 ∷ 0 ∷ stamp

-- the stamp of a message's head: part k is k + 2
m : Stamp
m = numbers 2 parts

-- what the definitions take, beside what the document says: replies
pub replies : List (List ℕ × List ℕ)
replies =
    -- a reply's refusal is in the table: ten is not used
    (reads refusal_kind (λ k. 9 ∷ k ∷ []) (firsts 16), 1 ∷ 2 ∷ 3 ∷ 4 ∷ 5 ∷ 6 ∷ 7 ∷ 8 ∷ 9 ∷ 11 ∷ 12 ∷ [])
    -- its verdict is 0 to 3, whether it fits its counts or not
    ∷ (reads verdict_kind (λ v. 7 ∷ v ∷ zeros (10 + stamp_long)) (firsts 10), 0 ∷ 1 ∷ 2 ∷ 3 ∷ [])
    -- all parts are free in replies
    ∷ (reads taken_kind (λ x. 5 ∷ replicate stamp_long x) (0 ∷ 255 ∷ []), 0 ∷ 255 ∷ [])
    ∷ (reads already_kind (λ x. 6 ∷ replicate stamp_long x) (0 ∷ 255 ∷ []), 0 ∷ 255 ∷ [])
    ∷ (reads verdict_kind (λ x. 7 ∷ 1 ∷ replicate (10 + stamp_long) x) (0 ∷ 255 ∷ []), 0 ∷ 255 ∷ [])
    -- replies have no other rule: a Wait with no bit, counts of records above 256
    ∷ (reads wait_kind (λ bits. 8 ∷ replicate bits_width bits) (0 ∷ 255 ∷ []), 0 ∷ 255 ∷ [])
    ∷ (reads gossip_taken_kind (λ x. 10 ∷ x ∷ x ∷ x ∷ x ∷ []) (0 ∷ 2 ∷ 255 ∷ []), 0 ∷ 2 ∷ 255 ∷ [])
    -- the bytes are the message and no more
    ∷ (reads refusal_kind (λ n. 9 ∷ replicate n 1) (0 ∷ 1 ∷ 2 ∷ []), 1 ∷ [])
    ∷ []

-- taps, questions and opening
pub requests : List (List ℕ × List ℕ)
requests =
    -- kinds 3 and 4: which parts of the label may be above zero, by the book's N; with no book at hand all are free
    (reads (tap_kind 2) (λ k. 3 ∷ tapped 7 1 1 ++ only k 1) (firsts 8), 0 ∷ 1 ∷ [])
    ∷ (reads (tap_kind 3) (λ k. 3 ∷ tapped 7 1 1 ++ only k 1) (firsts 8), 0 ∷ 1 ∷ 2 ∷ [])
    ∷ (reads (tap_kind parts) (λ x. 3 ∷ tapped 7 1 1 ++ replicate stamp_long x) (0 ∷ 255 ∷ []), 0 ∷ 255 ∷ [])
    ∷ (reads (question_kind 2) (λ k. 4 ∷ 7 ∷ only k 1) (firsts 8), 0 ∷ 1 ∷ [])
    ∷ (reads (question_kind 3) (λ k. 4 ∷ 7 ∷ only k 1) (firsts 8), 0 ∷ 1 ∷ 2 ∷ [])
    ∷ (reads (question_kind parts) (λ x. 4 ∷ 7 ∷ replicate stamp_long x) (0 ∷ 255 ∷ []), 0 ∷ 255 ∷ [])
    -- tap fields: prompt 0 to 63, showing 1 to 65,535, answer 1 or 2; front end and serial fill their bytes
    ∷ (reads (tap_kind parts) (λ p. 3 ∷ tapped p 1 1 ++ zeros stamp_long) (0 ∷ 63 ∷ 64 ∷ 255 ∷ []), 0 ∷ 63 ∷ [])
    ∷ (reads (question_kind parts) (λ p. 4 ∷ p ∷ zeros stamp_long) (0 ∷ 63 ∷ 64 ∷ 255 ∷ []), 0 ∷ 63 ∷ [])
    ∷ (reads (tap_kind parts) (λ h. 3 ∷ tapped 7 h 1 ++ zeros stamp_long) (0 ∷ 1 ∷ 255 ∷ []), 1 ∷ 255 ∷ [])
    ∷ (reads (tap_kind parts) (λ a. 3 ∷ tapped 7 1 a ++ zeros stamp_long) (firsts 10), 1 ∷ 2 ∷ [])
    ∷ (
      reads (tap_kind parts) (λ x. 3 ∷ x ∷ x ∷ x ∷ x ∷ x ∷ 63 ∷ x ∷ 255 ∷ 2 ∷ zeros stamp_long) (0 ∷ 255 ∷ []),
      0 ∷ 255 ∷ [],
    )
    -- kind 11's fields are judged later
    ∷ (reads open_kind (λ x. 11 ∷ x ∷ x ∷ []) (0 ∷ 255 ∷ []), 0 ∷ 255 ∷ [])
    ∷ []

-- heads and records
pub messages : List (List ℕ × List ℕ)
messages =
    -- a record by N 3 and m: origin below N; number at least 1 and at most m's part for the origin
    (reads (record_kind 3 m) (λ o. recorded o 1 (zeros stamp_long)) (0 ∷ 2 ∷ 3 ∷ 255 ∷ []), 0 ∷ 2 ∷ [])
    ∷ (reads (record_kind 3 m) (λ q. recorded 1 q (zeros stamp_long)) (firsts 6), 1 ∷ 2 ∷ 3 ∷ [])
    -- the label's part for the origin below the number, the others as high as they like, those past N zero
    ∷ (reads (record_kind 3 m) (λ x. recorded 1 2 (only 1 x)) (firsts 4), 0 ∷ 1 ∷ [])
    ∷ (reads (record_kind 3 m) (λ x. recorded 1 2 (only 2 x)) (0 ∷ 255 ∷ []), 0 ∷ 255 ∷ [])
    ∷ (reads (record_kind 3 m) (λ k. recorded 1 2 (only k 1)) (firsts 8), 0 ∷ 1 ∷ 2 ∷ [])
    -- and its tap's fields in range
    ∷ (
      reads (record_kind 3 m) (λ p. 2 ∷ 0 ∷ 0 ∷ 0 ∷ 0 ∷ 1 ∷ zeros stamp_long ++ tapped p 1 1) (0 ∷ 63 ∷ 64 ∷ []),
      0 ∷ 63 ∷ [],
    )
    -- a head: N 2 to 8, sender below N, count at most 256, stamp parts past N zero
    ∷ (reads head_kind (λ n. headed 0 n (zeros stamp_long)) (firsts 10), numbers 2 7)
    ∷ (reads head_kind (λ j. headed j 3 (zeros stamp_long)) (firsts 6), 0 ∷ 1 ∷ 2 ∷ [])
    ∷ (reads head_kind (λ x. 1 ∷ 0 ∷ 3 ∷ 1 ∷ x ∷ zeros stamp_long) (0 ∷ 1 ∷ 255 ∷ []), 0 ∷ [])
    ∷ (reads head_kind (λ k. headed 0 3 (only k 1)) (firsts 8), 0 ∷ 1 ∷ 2 ∷ [])
    ∷ []

-- what writers take, and answer
pub writers : List (List ℕ × List ℕ)
writers =
    -- the same rules, and each value within its width
    (takes refusal_kind (λ k. 9 ∷ k ∷ []) (firsts 16), 1 ∷ 2 ∷ 3 ∷ 4 ∷ 5 ∷ 6 ∷ 7 ∷ 8 ∷ 9 ∷ 11 ∷ 12 ∷ [])
    ∷ (takes verdict_kind (λ v. 7 ∷ v ∷ zeros (3 + parts)) (firsts 10), 0 ∷ 1 ∷ 2 ∷ 3 ∷ [])
    ∷ (takes taken_kind (λ x. 5 ∷ replicate parts x) (4294967295 ∷ 4294967296 ∷ []), 4294967295 ∷ [])
    ∷ (takes wait_kind (λ bits. 8 ∷ bits ∷ []) (0 ∷ 255 ∷ 256 ∷ []), 0 ∷ 255 ∷ [])
    ∷ (takes gossip_taken_kind (λ x. 10 ∷ x ∷ x ∷ []) (257 ∷ 65535 ∷ 65536 ∷ []), 257 ∷ 65535 ∷ [])
    ∷ (takes (tap_kind 3) (λ k. 3 ∷ 5 ∷ 1 ∷ 7 ∷ 1 ∷ 1 ∷ replace (zeros parts) k 1) (firsts parts), 0 ∷ 1 ∷ 2 ∷ [])
    ∷ (takes head_kind (λ c. 1 ∷ 0 ∷ 3 ∷ c ∷ zeros parts) (256 ∷ 257 ∷ []), 256 ∷ [])
    -- 1 before 12, and neither changes the output; what stands past the message stays
    ∷ (outcome (write_as refusal_kind (9 ∷ 10 ∷ []) (7 ∷ [])), 1 ∷ 7 ∷ [])
    ∷ (outcome (write_as refusal_kind (9 ∷ 11 ∷ []) (7 ∷ [])), 12 ∷ 7 ∷ [])
    ∷ (outcome (write_as refusal_kind (9 ∷ 10 ∷ []) (7 ∷ 7 ∷ 7 ∷ [])), 1 ∷ 7 ∷ 7 ∷ 7 ∷ [])
    ∷ (outcome (write_as refusal_kind (9 ∷ 11 ∷ []) (7 ∷ 7 ∷ 7 ∷ [])), 0 ∷ 2 ∷ 9 ∷ 11 ∷ 7 ∷ [])
    ∷ []

-- the definitions give each line
pub edges : (agrees replies ≡ true) × (agrees requests ≡ true) × (agrees messages ≡ true) × (agrees writers ≡ true)
unfolding reads takes outcome firsts zeros stamp_long only tapped recorded headed m replies requests messages writers
    line_of readable writable written write_as body_by shaped in_table head_kind record_kind tap_kind question_kind
    taken_kind
    already_kind verdict_kind wait_kind refusal_kind gossip_taken_kind open_kind parts_at list_of number_from bytes_of
    stamp_fits
    word tap_fits front_ends serials prompt_count showings accept decline body_of body_fits in_range fewest most
    log_room
    record_fits is_known knows
edges = (refl, refl, refl, refl)
