use Rattle.std.proofs.Common.{◌≡◌, ◌<◌, ◌&&◌, ◌||◌, ℕ, List, All, take}
use Rattle.std.specs.BTreeMap.{get, keys}
use Rattle.std.specs.Ordering.{nat_cmp}
use Rattle.sc_guarded.specs.Items.{items_at}
use Rattle.sc_model.specs.Sets.{IsConfig, Keeps}
use Rattle.sc_tree.specs.Walks.{has_at, is_among, OwnsWaiting}
use Rattle.sc_tree.proofs.walk.open_branches.Given as goal

abbrev pub invariant-loop-branch : goal.invariant-loop-branch
invariant-loop-branch g l =
    let sets = g.C.Conditions.sets in
    record {
      keeps : Keeps (sets l.fn.conds) (sets l.conds);
      own : OwnsWaiting (sets l.conds) (get nat_cmp l.waiting);
      opens : (d : List ℕ) → IsConfig (sets l.fn.conds).arities d → (n : ℕ) → has_at (sets l.conds) (get nat_cmp l.waiting n) d
          ≡ (has_at (sets l.fn.conds) (get nat_cmp l.fn.waiting n) d || ((sets l.fn.conds).has l.cond.0 d && is_among n (items_at (sets l.fn.conds) (take l.branch-index l.branches) d)));
      below : (bound : ℕ) → All (λ n. n < bound) (keys l.fn.waiting) → All (λ (branch : _). branch.1.0 < bound) l.branches → All (λ n. n < bound) (keys l.waiting);
    }
