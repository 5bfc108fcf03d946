use Rattle.std.proofs.Common.{◌≡◌, ◌++◌, map, reverse, drop}
use Rattle.sc_base.specs.declared.id.Cond.{Cond}
use Rattle.sc_base.specs.declared.id.TreeId.{TreeId}
use Rattle.sc_show.specs.declared.tree.Task.TheVariants.{Tree}
use Rattle.sc_show.proofs.tree.push_branches.Given as goal

abbrev pub invariant-loop-i : goal.invariant-loop-i
invariant-loop-i l = reverse l.tasks.items ≡ map Tree (map (λ (branch : Cond × TreeId). branch.1) (drop l.i l.branches)) ++ reverse l.initial.tasks.items
