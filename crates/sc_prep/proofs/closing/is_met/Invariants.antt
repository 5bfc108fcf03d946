use Rattle.std.proofs.Common.{◌≡◌, ℕ, List, [], take, true}
use Rattle.sc_prep.proofs.Terms.{IsConfig, Keeps, items_at}
use Rattle.sc_prep.proofs.closing.is_met.Given as goal

abbrev pub invariant-loop-index : goal.invariant-loop-index
invariant-loop-index g l =
    let first = g.C.Conditions.sets l.fn.conds in
    record {
      keeps : Keeps first (g.C.Conditions.sets l.conds);
      none : (c : List ℕ) → IsConfig first.arities c → first.has l.by.0 c ≡ true → items_at first (take l.index l.items) c ≡ [];
    }
