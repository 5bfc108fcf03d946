-- Nodes that decide by a variable, seen through the sets of configurations that they stand for.
use Rattle.std.specs.Prelude.{◌≡◌, ℕ, ◌+◌, ◌<◌, List, length, map, slice_index, slice_set}
use Rattle.sc_model.specs.Sets.{Sets, IsConfig, IsCond, DependsFrom, IsTop}
use Rattle.sc_diagram.specs.declared.node.Node.{Node}

abbrev pub numbers_of : List Node → List ℕ
numbers_of nodes = map (λ node. node.0) nodes

-- the child stands for what remains of a node where the variable, and none after it, has the option
pub record IsChild (s : Sets) (n variable option child : ℕ) : Type 0 where
  pub own : IsCond s child
  pub later : DependsFrom s child (variable + 1)
  pub part : (c : List ℕ) → IsConfig s.arities c → s.has child c ≡ s.has n (slice_set c variable option)

-- the variable is the first on which the node depends, and the children are those for its options,
-- in order
pub record IsDecisionOf (s : Sets) (n variable : ℕ) (children : List ℕ) : Type 0 where
  pub top : IsTop s n variable
  pub wide : length children ≡ slice_index s.arities variable
  pub each : (option : ℕ) → option < length children → IsChild s n variable option (slice_index children option)
