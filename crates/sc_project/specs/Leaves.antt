-- The leaves among the lines of a store of trees.
use Rattle.std.specs.Prelude.{ℕ, ◌+◌, List, [], ◌∷◌}
use Rattle.sc_tree.specs.Lines.{Line, leaf, node, choice}

-- 1 for a leaf
abbrev pub one_leaf : Line → ℕ
one_leaf (leaf place spelling) = 1
one_leaf (node production children) = 0
one_leaf (choice branches) = 0

-- how many of the lines are leaves
abbrev pub leaves_in : List Line → ℕ
leaves_in [] = 0
leaves_in (line ∷ lines) = one_leaf line + leaves_in lines
