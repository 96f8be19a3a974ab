-- `lent::put_record` meets its contract. Assumes nothing.
use Prim.Native.Nat.{ℕ, ◌+◌}
use native.Mathlib.Omega.{arith}
use mathlib.Core.Path.{refl, sym, ap, subst, ◌∙◌}
use mathlib.Core.List.{List, [], ◌∷◌}
use lib.ListN.{set}
use Rattle.lists.specs.Part.{patch}
use Rattle.book_log.specs.Region.{record_at, records_at}
use Rattle.log_edit.specs.Merge.{Fresh, merged}
use Rattle.lent.specs.Changes.{log_is, log-taken}
use Rattle.lent.specs.Held.{held-long, piece-within}
use Rattle.lent.specs.Words.{Logged, Log, size, from, piece}
use borrow.Author.Rules.{rules}
use Rattle.lent.proofs.put_record.Goals as goal

pub put_at-requires : goal.put_at-requires
unfolding from size
put_at-requires c =
    let ws = c.args.b.now in
    let e = c.logged_of-n.ensures.0 in
    let w = piece-within ws c.requires.held Log in
    let r = ap (λ (k : ℕ). records_at k (piece Log ws)) e ∙ log_is ws c.requires.held in
    record {
      a_le_e = (omega arith, omega (arith, w), omega (arith, e, c.requires.b_len_bound));
      fresh = subst (Fresh (record_at c.args.row.now ∷ [])) (sym r) c.requires.fresh;
    }

pub set_logged-requires : goal.set_logged-requires
set_logged-requires c =
    let e = held-long c.args.b.now c.requires.held in
    search rules

pub returns : goal.returns
unfolding from size
returns c =
    let ws = c.args.b.now in
    let rs = record_at c.args.row.now ∷ [] in
    c.set_logged.ensures
    ∙ ap (λ (l : List ℕ). set l (from Logged) (c.logged_of-n.result + 1)) c.put_at.ensures
    ∙ ap (λ (k : ℕ). set (patch (from Log) (size Log) ws (merged rs k 1 (piece Log ws))) (from Logged) (k + 1))
    c.logged_of-n.ensures.0
    ∙ log-taken ws c.requires.held rs 1 refl c.requires.fresh (omega (arith, c.requires.b_len_bound))
