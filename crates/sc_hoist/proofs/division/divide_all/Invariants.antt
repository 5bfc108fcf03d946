use Rattle.std.proofs.Common.{◌≡◌, ℕ, ◌++◌, List, map, length}
use Rattle.std.specs.Vec.Iter.{into_iter_items, into_iter_len}
use Rattle.sc_model.specs.Sets.{IsConfig, Keeps}
use Rattle.sc_hoist.specs.Branches.{lists_at}
use Rattle.sc_hoist.specs.Leaves.{AreLeaves, Agree, placed}
use Rattle.sc_hoist.proofs.division.divide_all.Given as goal

abbrev pub invariant-loop-branch : goal.invariant-loop-branch
invariant-loop-branch g l =
    let sets = g.C.Conditions.sets in
    record {
      can : (goal.iterator-loop-branch g).can_next l.branch-iterator;
      finite : (goal.iterator-loop-branch g).is_finite l.branch-iterator;
      long : into_iter_len l.branch-iterator ≡ length (into_iter_items l.branch-iterator);
      keeps : Keeps (sets l.fn.conds) (sets l.conds);
      found : AreLeaves (sets l.conds) l.divided.items;
      rest : AreLeaves (sets l.fn.conds) (into_iter_items l.branch-iterator);
      lists : (c : List ℕ) → IsConfig (sets l.fn.conds).arities c
          → lists_at (sets l.conds) l.divided.items c ++ map (placed ((sets l.fn.conds).has l.item.0 c) l.place) (lists_at (sets l.fn.conds) (into_iter_items l.branch-iterator) c)
          ≡ map (placed ((sets l.fn.conds).has l.item.0 c) l.place) (lists_at (sets l.fn.conds) l.fn.branches.items c);
      agree : (c d : List ℕ) → IsConfig (sets l.fn.conds).arities c → IsConfig (sets l.fn.conds).arities d → (sets l.fn.conds).has l.item.0 c ≡ (sets l.fn.conds).has l.item.0 d
          → Agree (sets l.fn.conds) l.fn.branches.items c d → Agree (sets l.conds) l.divided.items c d × Agree (sets l.fn.conds) (into_iter_items l.branch-iterator) c d;
    }
