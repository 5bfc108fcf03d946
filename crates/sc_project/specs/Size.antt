-- How large a tree is.
use Rattle.std.specs.Prelude.{ℕ, ◌+◌, length}
use Rattle.c11_parsing.specs.Trees.{Tree, Forest, leaf, leaves, node, no_trees, trees}
use Rattle.sc_project.specs.declared.size.TreeSize.{TreeSize}

-- how many nodes a tree has that are no leaves
abbrev mutual
  pub nodes : Tree → ℕ
  nodes (leaf token) = 0
  nodes (node production children) = 1 + nodes_of children

  pub nodes_of : Forest → ℕ
  nodes_of no_trees = 0
  nodes_of (trees tree forest) = nodes tree + nodes_of forest

abbrev pub size_of : Tree → TreeSize
size_of tree = record { leaves = length (leaves tree); nodes = nodes tree }
