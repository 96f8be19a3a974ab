-- `settle::apply_log` meets its contract. Assumes nothing.
use Prim.Native.Nat.{ℕ, ◌+◌, ◌-◌, ◌<◌}
use native.Mathlib.Omega.{arith}
use mathlib.Core.Path.{◌≡◌, refl, ap, subst, ◌∙◌}
use lib.ListN.{length, get_or, drop}
use Rattle.lists.specs.TestLaws.{bit, bit_le}
use Rattle.ledger.specs.Log.{newly_applied}
use Rattle.limits.specs.LimitLaws.{log_small}
use Rattle.lent.specs.Rows.{no_record}
use Rattle.lent.specs.Words.{book_of, words_of}
use Rattle.book_log.proofs.Rows.{byte_bit}
use Rattle.settle.specs.Moves.{is_newly_applied}
use Rattle.settle.specs.Ready.{applied_from}
use Rattle.settle.proofs.Turn.{log_start, turn-held, turn_in, turn_applicable, turn-words, turn-newly, log-end}
use borrow.Author.Rules.{rules}
use Rattle.settle.proofs.apply_log.Goals as goal

pub loop-i-init : goal.loop-i-init
loop-i-init c =
    let e = c.logged_of-i.ensures in
    let k = log_start c.args.before.now c.args.s.now c.args.b.now c.requires.held c.requires.appliable _ e.0 in
    (omega (arith, e.0), refl, k.0, k.1, omega (arith, e.1))

pub apply_row-requires : goal.apply_row-requires
apply_row-requires c =
    let w = c.args in
    let i = c.loop-i.i in
    let lt : i - 1 < length (book_of w.b.now).log = omega (arith, c.loop-i.invariant.0, c.loop-i-test.true) in
    let back : i ≡ i - 1 + 1 = omega (arith, c.loop-i-test.true) in
    let e = subst (λ (k : ℕ). c.loop-i.b ≡ words_of (applied_from w.before.now w.s.now (book_of w.b.now) k))
    back c.loop-i.invariant.2 in
    let h = c.requires.held in
    let y = c.requires.appliable in
    record {
      held = turn-held w.before.now w.s.now w.b.now h y c.loop-i.b (i - 1) lt e;
      i_in_bounds = turn_in w.before.now w.s.now w.b.now h y c.loop-i.b (i - 1) lt e;
      applicable = turn_applicable w.before.now w.s.now w.b.now h y c.loop-i.b (i - 1) lt e;
    }

pub overflow_add-n : goal.overflow_add-n
overflow_add-n c =
    let one = c.from-n.ensures ∙ byte_bit c.apply_row.result in
    record { fits = omega (arith, c.loop-i.invariant.4, one, bit_le c.apply_row.result, log_small) }

pub loop-i-preserved : goal.loop-i-preserved
loop-i-preserved c =
    let w = c.args in
    let i = c.loop-i.i in
    let lt : i - 1 < length (book_of w.b.now).log = omega (arith, c.loop-i.invariant.0, c.loop-i-test.true) in
    let back : i ≡ i - 1 + 1 = omega (arith, c.loop-i-test.true) in
    let e = subst (λ (k : ℕ). c.loop-i.b ≡ words_of (applied_from w.before.now w.s.now (book_of w.b.now) k))
    back c.loop-i.invariant.2 in
    let f = subst (λ (k : ℕ). c.loop-i.n
    ≡ length (newly_applied w.before.now w.s.now (drop k (book_of w.b.now).log))) back
    c.loop-i.invariant.3 in
    let h = c.requires.held in
    let y = c.requires.appliable in
    let few = c.from-n.ensures ∙ byte_bit c.apply_row.result in
    let one : c.from-n.result
    ≡ bit (is_newly_applied w.before.now w.s.now (get_or (book_of c.loop-i.b).log (i - 1) no_record)) =
    few ∙ ap bit c.apply_row.ensures.value in (
      search rules,
      search rules,
      c.apply_row.ensures.b_after ∙ turn-words w.before.now w.s.now w.b.now h y c.loop-i.b (i - 1) lt e,
      ap (λ (k : ℕ). c.loop-i.n + k) one
          ∙ turn-newly w.before.now w.s.now w.b.now h y c.loop-i.b (i - 1) lt e c.loop-i.n f,
      omega (arith, c.loop-i.invariant.4, few, bit_le c.apply_row.result, c.loop-i-test.true),
    )

pub returns : goal.returns
returns c =
    let w = c.args in
    let k = log-end w.before.now w.s.now w.b.now c.requires.held c.requires.appliable c.loop-i.i
    (omega (arith, c.loop-i-test.false)) in
    record {
      b_after = c.loop-i.invariant.2 ∙ k.0;
      value = c.loop-i.invariant.3 ∙ k.1;
    }
