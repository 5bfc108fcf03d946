use Rattle.std.proofs.Common.{◌≡◌, ◌<◌, ◌++◌, ℕ, List, [], All, length, map, take, if◌then◌else◌}
use Rattle.sc_base.specs.declared.id.Cond.{Cond}
use Rattle.sc_base.specs.declared.id.TreeId.{TreeId}
use Rattle.sc_guarded.specs.Items.{items_at}
use Rattle.sc_model.specs.Sets.{IsConfig, IsCond, Keeps}
use Rattle.sc_tree.specs.Parameters.{first_list}
use Rattle.sc_tree.specs.Views.{line_of}
use Rattle.sc_tree.proofs.parameters.first_lists.Given as goal

abbrev pub invariant-loop-tree : goal.invariant-loop-tree
invariant-loop-tree g l =
    let sets = g.C.Conditions.sets in
    record {
      keeps : Keeps (sets l.fn.conds) (sets l.conds);
      left : IsCond (sets l.conds) l.left.0;
      own : All (λ (list : Cond × TreeId). IsCond (sets l.conds) list.0.0) l.lists.items;
      within : All (λ (list : Cond × TreeId). list.1.0 < length l.lines) l.lists.items;
      lists : (d : List ℕ) → IsConfig (sets l.fn.conds).arities d → (met : List TreeId)
          → items_at (sets l.conds) l.lists.items d ++ (if (sets l.conds).has l.left.0 d then met else [])
          ≡ first_list (map line_of l.lines) (items_at (sets l.fn.conds) (take l.tree-index l.trees) d) met;
    }
