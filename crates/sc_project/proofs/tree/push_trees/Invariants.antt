use Rattle.std.proofs.Common.{◌≡◌, ◌++◌, map, reverse, drop}
use Rattle.sc_project.specs.declared.tree.Task.TheVariants.{Tree}
use Rattle.sc_project.proofs.tree.push_trees.Given as goal

abbrev pub invariant-loop-i : goal.invariant-loop-i
invariant-loop-i l = reverse l.tasks.items ≡ map Tree (drop l.i l.trees) ++ reverse l.initial.tasks.items
