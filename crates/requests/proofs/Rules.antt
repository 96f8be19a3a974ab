-- The rules of a record that are left once its tap is in order: a tap that keeps the field rules is a body that does.
-- Assumes nothing.
use Prim.Native.Nat.{ℕ}
use mathlib.Core.Path.{◌≡◌, sym, subst}
use mathlib.Core.Bool.{true, ◌&&◌}
use lib.Dec.{T, leb}
use Rattle.lists.specs.Tests.{all}
use Rattle.lists.specs.TestLaws.{is_true}
use Rattle.stamp.specs.declared.Parts.{Parts}
use Rattle.stamp.specs.Parts.{list_of, parts_at}
use Rattle.stamp.specs.Stamp.{part}
use Rattle.tally.specs.declared.Tap.{Tap}
use Rattle.tally.specs.Body.{body_fits}
use Rattle.tally.proofs.BodyLaws.{tap-body}
use Rattle.tally.specs.Tap.{tap_fits, word_of}
use Rattle.ledger.specs.Record.{label_rules, record_fits, is_known, knows}
use Rattle.wire.specs.Says as said
use Rattle.wire.specs.Said.{figures}
use Rattle.wire.specs.Kinds.{record_kind}

pub rules-left :
    (n origin number : ℕ) (label m : Parts) (tap : Tap) → tap_fits tap ≡ true
    → (record_kind n (list_of m)).rules (figures (said.Record origin number label tap))
    ≡ (all (label_rules n origin number (list_of label)) && leb number (part (list_of m) origin))
unfolding record_kind parts_at list_of record_fits is_known knows
rules-left n origin number label m tap fit =
    rw (fit, is_true (body_fits (word_of tap)) (tap-body tap (subst T (sym fit) tt)))
