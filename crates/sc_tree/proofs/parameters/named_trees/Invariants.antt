use Rattle.std.proofs.Common.{◌≡◌, map, slice_get, take}
use Rattle.std.specs.List.{filter}
use Rattle.sc_tree.specs.Parameters.{is_named}
use Rattle.sc_tree.specs.Views.{line_of}
use Rattle.sc_tree.proofs.parameters.named_trees.Given as goal

abbrev pub invariant-loop-tree : goal.invariant-loop-tree
invariant-loop-tree l = l.named.items ≡ filter (λ (tree : _). is_named (slice_get (map line_of l.lines) tree.1.0)) (take l.tree-index l.trees)
