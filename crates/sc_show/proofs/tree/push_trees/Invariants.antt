use Rattle.std.proofs.Common.{◌≡◌, ◌++◌, map, reverse, drop}
use Rattle.sc_show.specs.declared.tree.Task.TheVariants.{Tree}
use Rattle.sc_show.proofs.tree.push_trees.Given as goal

abbrev pub invariant-loop-i : goal.invariant-loop-i
invariant-loop-i l = reverse l.tasks.items ≡ map Tree (drop l.i l.children) ++ reverse l.initial.tasks.items
