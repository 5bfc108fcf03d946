use Rattle.std.proofs.Common.{◌≡◌, ℕ, List, [], ◌∷◌, take, if◌then◌else◌}
use Rattle.sc_model.specs.Sets.{IsConfig, Keeps}
use Rattle.sc_hoist.specs.Branches.{lists_at}
use Rattle.sc_hoist.specs.Leaves.{AreLeaves, Agree, SameBelow}
use Rattle.sc_hoist.specs.Places.{places_from}
use Rattle.sc_hoist.proofs.partition.branches_of.Given as goal

abbrev pub invariant-loop-index : goal.invariant-loop-index
invariant-loop-index g l =
    let sets = g.C.Conditions.sets in
    record {
      keeps : Keeps (sets l.fn.conds) (sets l.conds);
      leaves : AreLeaves (sets l.conds) l.branches.items;
      lists : (c : List ℕ) → IsConfig (sets l.fn.conds).arities c
          → lists_at (sets l.conds) l.branches.items c ≡ (if (sets l.fn.conds).has l.fn.cond.0 c then places_from (sets l.fn.conds) l.from (take l.index l.items) c ∷ [] else []);
      agree : (c d : List ℕ) → IsConfig (sets l.fn.conds).arities c → IsConfig (sets l.fn.conds).arities d → (sets l.fn.conds).has l.fn.cond.0 c ≡ (sets l.fn.conds).has l.fn.cond.0 d
          → SameBelow (sets l.fn.conds) l.items l.index c d → Agree (sets l.conds) l.branches.items c d;
    }
