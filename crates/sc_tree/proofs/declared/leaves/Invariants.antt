use Rattle.std.proofs.Common.{◌≡◌, map, take}
use Rattle.sc_tree.specs.Views.{line_of}
use Rattle.sc_tree.specs.Walks.{leaf_items}
use Rattle.sc_tree.proofs.declared.leaves.Given as goal

abbrev pub invariant-loop-tree : goal.invariant-loop-tree
invariant-loop-tree l = l.names.items ≡ leaf_items (map line_of l.lines) (take l.tree-index l.trees)
