use Rattle.std.proofs.Common.{◌<◌, ℕ, List, All, length, map}
use Rattle.std.specs.BTreeMap.{get, keys}
use Rattle.std.specs.Ordering.{nat_cmp}
use Rattle.sc_base.specs.declared.id.Cond.{Cond}
use Rattle.sc_base.specs.declared.id.TreeId.{TreeId}
use Rattle.sc_guarded.specs.Items.{items_at}
use Rattle.sc_model.specs.Sets.{IsConfig, IsCond, Keeps}
use Rattle.sc_tree.proofs.Steps.{Onward, top_of}
use Rattle.sc_tree.specs.Views.{line_of}
use Rattle.sc_tree.specs.Walks.{child_by, Walked, OwnsWaiting}
use Rattle.sc_tree.proofs.walk.walk.Given as goal

abbrev pub invariant-loop-id : goal.invariant-loop-id
invariant-loop-id g l =
    let sets = g.C.Conditions.sets in
    record {
      keeps : Keeps (sets l.fn.conds) (sets l.conds);
      own : OwnsWaiting (sets l.conds) (get nat_cmp l.waiting);
      below : All (λ n. n < length l.lines) (keys l.waiting);
      passed_own : All (λ (tree : Cond × TreeId). IsCond (sets l.conds) tree.0.0) l.passed.items;
      passed_within : All (λ (tree : Cond × TreeId). tree.1.0 < length l.lines) l.passed.items;
      onward : (d : List ℕ) → IsConfig (sets l.fn.conds).arities d → (path : List TreeId) → Walked (child_by l.route) (sets l.fn.conds) (map line_of l.lines) d (items_at (sets l.fn.conds) l.starts d) path
          → Onward (child_by l.route) (sets l.fn.conds) (sets l.conds) (map line_of l.lines) (get nat_cmp l.waiting) l.passed.items d path;
    }

abbrev pub decreases-loop-id : goal.decreases-loop-id
decreases-loop-id g l = top_of l.waiting.entries
