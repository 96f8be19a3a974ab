-- `gossip_step::take_new` meets its contract. Assumes nothing.
use Prim.Native.Nat.{ℕ, ◌+◌, ◌-◌}
use native.Mathlib.Omega.{arith}
use mathlib.Core.Path.{◌≡◌, sym, ap, ap₂, subst, ◌∙◌}
use mathlib.Core.List.{List}
use lib.ListN.{set}
use Rattle.lists.specs.Part.{mid, patch}
use Rattle.limits.specs.LimitLaws.{log_small}
use Rattle.ledger.specs.Log.{unknowns}
use Rattle.book_log.specs.Region.{records_at}
use Rattle.log_edit.specs.Merge.{Fresh, merged}
use Rattle.message.specs.Message.{records_in}
use Rattle.lent.specs.Changes.{rows_fit, log_is, log-taken}
use Rattle.lent.specs.Held.{held-long, piece-within}
use Rattle.lent.specs.Words.{Logged, Log, size, from, piece}
use borrow.Author.Rules.{rules}
use Rattle.gossip_step.proofs.take_new.Goals as goal

pub merge_at-requires : goal.merge_at-requires
merge_at-requires c =
    let long : c.log_end.result - c.log_start.result ≡ size Log =
    omega (arith, c.log_end.ensures, c.log_start.ensures) in
    let ws = c.args.b.now in
    let h = c.requires.held in
    let count = c.logged_of-logged.ensures.0 in
    let room = rows_fit ws h (c.logged_of-logged.result + c.args.new) (omega (arith, count, c.requires.len_bound)) in
    let there = ap₂ (λ (x k : ℕ). mid x k ws) c.log_start.ensures (long) in
    let log = ap₂ records_at count there ∙ log_is ws h in
    record {
      a_le_e = (
        omega (arith, c.log_start.ensures, c.log_end.ensures),
        omega (arith, c.log_end.ensures, piece-within ws h Log),
        omega (arith, long, room),
      );
      coming = c.requires.coming;
      fresh = subst (Fresh (unknowns c.args.known.now (records_in c.args.msg.now))) (sym log)
          c.requires.fresh;
    }

pub overflow_add-logged : goal.overflow_add-logged
overflow_add-logged c =
    record { fits = omega (arith, c.logged_of-logged.ensures.0, c.requires.len_bound, log_small) }

pub set_logged-requires : goal.set_logged-requires
set_logged-requires c =
    let e = held-long c.args.b.now c.requires.held in
    search rules

pub returns : goal.returns
returns c =
    let long : c.log_end.result - c.log_start.result ≡ size Log =
    omega (arith, c.log_end.ensures, c.log_start.ensures) in
    let w = c.args in
    let ws = w.b.now in
    let rs = unknowns w.known.now (records_in w.msg.now) in
    let k = c.logged_of-logged.result in
    c.set_logged.ensures
    ∙ ap (λ (l : List ℕ). set l (from Logged) (k + w.new)) c.merge_at.ensures
    ∙ ap₂ (λ (x y : ℕ). set (patch x y ws (merged rs k w.new (mid x y ws))) (from Logged) (k + w.new))
    c.log_start.ensures (long)
    ∙ ap (λ (y : ℕ). set (patch (from Log) (size Log) ws (merged rs y w.new (piece Log ws))) (from Logged)
    (y + w.new)) c.logged_of-logged.ensures.0
    ∙ log-taken ws c.requires.held rs w.new c.requires.coming.new-number c.requires.fresh c.requires.len_bound
