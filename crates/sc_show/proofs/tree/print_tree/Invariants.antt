use Rattle.std.proofs.Common.{reverse}
use Rattle.std.specs.List.{sum_by}
use Rattle.sc_model.specs.Sets.{Keeps}
use Rattle.sc_space.specs.Seen.{seen_space}
use Rattle.sc_show.proofs.TreePrinting.{Underway}
use Rattle.sc_show.proofs.TreeWeights.{task_weight}
use Rattle.sc_show.proofs.tree.print_tree.Given as goal

abbrev pub invariant-loop-task : goal.invariant-loop-task
invariant-loop-task g l =
    let sets = g.C.Conditions.sets in
    record {
      keeps : Keeps (sets l.fn.conds) (sets l.conds);
      printed : Underway (seen_space l.space) (sets l.fn.conds) (sets l.conds) l.names l.files l.trees l.fn.printer l.printer l.fn.root (reverse l.tasks.items);
    }

abbrev pub decreases-loop-task : goal.decreases-loop-task
decreases-loop-task g l = sum_by (task_weight l.trees) (reverse l.tasks.items)
