use Rattle.std.proofs.Common.{reverse}
use Rattle.std.specs.List.{sum_by}
use Rattle.sc_project.proofs.Pending.{IsUnderway}
use Rattle.sc_project.proofs.Weights.{task_weight}
use Rattle.sc_project.proofs.tree.project_tree.Given as goal

abbrev pub invariant-loop-task : goal.invariant-loop-task
invariant-loop-task g l = IsUnderway (g.C.Conditions.sets l.conds) l.trees l.config l.fn.root.0 l.tasks.items l.roots.items l.laid l.count

abbrev pub decreases-loop-task : goal.decreases-loop-task
decreases-loop-task g l = sum_by (task_weight l.trees) (reverse l.tasks.items)
