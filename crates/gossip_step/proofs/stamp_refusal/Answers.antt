-- `gossip_step::stamp_refusal` meets its contract. Assumes nothing.
use Prim.Native.Nat.{ℕ, ◌<◌}
use native.Mathlib.Omega.{arith}
use mathlib.Core.Path.{◌≡◌, sym, ap, ap₂, subst, ◌∙◌}
use mathlib.Core.Logic.{◌≢◌}
use lib.Dec.{T, ltb}
use Rattle.lists.specs.Tests.{every}
use Rattle.limits.specs.LimitLaws.{most-parts}
use Rattle.limits.specs.Limits.{parts, word}
use Rattle.stamp.specs.Laws.{fits}
use Rattle.stamp.specs.Stamp.{Stamp, merge, stamp_fits}
use Rattle.meaning.specs.BookLaws.{me_in}
use Rattle.lent.specs.SoundWords.{lawful-sound, lawful-held}
use Rattle.lent.specs.Words.{book_of}
use Rattle.std.proofs.lemmas.Result.{err_from_is_err_and}
use Rattle.wire.specs.Refusal.{table_number, number_pos}
use Rattle.gossip_step.specs.Refusals.{row_refusal, own_refusal}
use Rattle.gossip_step.proofs.HeadLines.{merged-words, other-house, from_self, by_row, by-own}
use Rattle.gossip_step.proofs.stamp_refusal.Goals as goal

pub screens_of-requires : goal.screens_of-requires
screens_of-requires c = lawful-held c.args.b.now c.requires.sound

pub returns-then-screens-screens_of : goal.returns-then-screens-screens_of
returns-then-screens-screens_of c =
    let w = c.args in
    other-house (book_of w.b.now) w.sender w.screens w.m.now
    (λ e. c.if-screens-screens_of.true (e ∙ sym c.screens_of.ensures.0))

pub screen_of-me-requires : goal.screen_of-me-requires
screen_of-me-requires c = lawful-held c.args.b.now c.requires.sound

pub returns-then-sender-me : goal.returns-then-sender-me
returns-then-sender-me c =
    let at_home : (let w = c.args in
    w.screens ≡ (book_of w.b.now).screens) =
    c.if-screens-screens_of.false ∙ c.screens_of.ensures.0 in
    let w = c.args in
    from_self (book_of w.b.now) w.sender w.screens w.m.now (at_home)
    (c.if-sender-me.true ∙ c.screen_of-me.ensures)

pub row_of-row-requires : goal.row_of-row-requires
row_of-row-requires c =
    let at_home : (let w = c.args in
    w.screens ≡ (book_of w.b.now).screens) =
    c.if-screens-screens_of.false ∙ c.screens_of.ensures.0 in
    record {
      held = lawful-held c.args.b.now c.requires.sound;
      j_bound = omega (arith, c.requires.sender_fits.0, at_home);
    }

pub row_refusal-requires : goal.row_refusal-requires
row_refusal-requires c =
    c.row_of-row.ensures.1 ∙ sym (fits c.args.screens c.args.m.now c.requires.sender_fits.1).long

pub returns-in_err-row_refusal : goal.returns-in_err-row_refusal
returns-in_err-row_refusal c =
    let at_home : (let w = c.args in
    w.screens ≡ (book_of w.b.now).screens) =
    c.if-screens-screens_of.false ∙ c.screens_of.ensures.0 in
    let not-self : (let w = c.args in
    w.sender ≢ (book_of w.b.now).me) =
    λ e. c.if-sender-me.false (e ∙ sym c.screen_of-me.ensures) in
    let w = c.args in
    let r = c.in_err-row_refusal.field-0.0 in
    let told : table_number r ≡ row_refusal c.row_of-row.result w.m.now = c.in_err-row_refusal.ensures in
    let e = told ∙ ap (λ (x : Stamp). row_refusal x w.m.now) c.row_of-row.ensures.0 in
    let p = err_from_is_err_and c.from_residual.result c.from_residual.ensures.1 in
    rw (p.1, p.2)
    (e ∙ by_row (book_of w.b.now) w.sender w.screens w.m.now (at_home) (not-self)
    (λ z. omega (arith, e, z, number_pos r)))

pub known_of-known-requires : goal.known_of-known-requires
known_of-known-requires c =
    let ws = c.args.b.now in
    record {
      held = lawful-held ws c.requires.sound;
      b_bound = me_in (book_of ws) (lawful-sound ws c.requires.sound);
    }

pub own_refusal-requires : goal.own_refusal-requires
own_refusal-requires c =
    let at_home : (let w = c.args in
    w.screens ≡ (book_of w.b.now).screens) =
    c.if-screens-screens_of.false ∙ c.screens_of.ensures.0 in
    let ws = c.args.b.now in
    let h = lawful-held ws c.requires.sound in
    let me : c.screen_of-me.result
    < parts = omega (
      arith,
      c.screen_of-me.ensures,
      me_in (book_of ws) (lawful-sound ws c.requires.sound),
      h.shape.screens-few,
      most-parts,
    ) in
    let fit = subst (λ (n : ℕ). T (stamp_fits n c.args.m.now)) (at_home) c.requires.sender_fits.1 in
    record {
      known_len = (
        c.known_of-known.ensures.1,
        (fits c.args.screens c.args.m.now c.requires.sender_fits.1).long,
        me,
      );
      t = subst (λ (x : Stamp). T (every (λ y. ltb y word) (merge x c.args.m.now))) (sym c.known_of-known.ensures.0)
          (merged-words ws c.requires.sound c.args.m.now fit);
    }

pub returns : goal.returns
returns c =
    let at_home : (let w = c.args in
    w.screens ≡ (book_of w.b.now).screens) =
    c.if-screens-screens_of.false ∙ c.screens_of.ensures.0 in
    let not-self : (let w = c.args in
    w.sender ≢ (book_of w.b.now).me) =
    λ e. c.if-sender-me.false (e ∙ sym c.screen_of-me.ensures) in
    let w = c.args in
    let told : 0 ≡ row_refusal c.row_of-row.result w.m.now = c.in_ok-row_refusal.ensures in
    let e = told ∙ ap (λ (x : Stamp). row_refusal x w.m.now) c.row_of-row.ensures.0 in
    c.own_refusal.ensures
    ∙ ap₂ (λ (x : Stamp) (i : ℕ). own_refusal x i w.m.now) c.known_of-known.ensures.0 c.screen_of-me.ensures
    ∙ by-own (book_of w.b.now) w.sender w.screens w.m.now (at_home) (not-self)
    (sym e)
