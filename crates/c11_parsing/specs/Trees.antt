-- Parse trees of one configuration, and conditions.
use Rattle.std.specs.Prelude.{ℕ, Bool, List, [], ◌∷◌, ◌++◌, Option, Some, None}
use Rattle.sc_model.specs.Token.{Token}

-- A leaf is a token. A node has the number, from 1, of its production, and its children.
mutual
  pub data Tree : Type 0 where
    leaf : Token → Tree
    node : ℕ → Forest → Tree

  pub data Forest : Type 0 where
    no_trees : Forest
    trees : Tree → Forest → Forest

-- the tree before the others, where there is one
abbrev pub with_tree : Option Tree → Forest → Forest
with_tree None forest = forest
with_tree (Some tree) forest = trees tree forest

-- the leaves from left to right
abbrev mutual
  pub leaves : Tree → List Token
  leaves (leaf token) = token ∷ []
  leaves (node production children) = leaves_of children

  pub leaves_of : Forest → List Token
  leaves_of no_trees = []
  leaves_of (trees tree forest) = leaves tree ++ leaves_of forest

-- A configuration has one option index for each variable; a condition is a set of them.
abbrev pub Condition : Type 0
Condition = List ℕ → Bool
