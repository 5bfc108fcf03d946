-- The text of one configuration: its tree laid out, or its fault alone.
use Rattle.std.specs.Prelude.{◌≡◌, ℕ, ◌+◌, true, List, [], ◌∷◌, ◌++◌, Some, None, Result, Ok, Err}
use Rattle.sc_model.specs.Fault.{Fault}
use Rattle.sc_text.specs.Answer.{Condition, Part, leaf_part, node_part, ShownTree, shown_leaf, shown_node, ShownForest, no_shown, more_shown, tree_parts, Answer}

-- The number of a tree's root, where the numbers of its parts begin with this one: the root is the
-- last part. So the next tree's numbers begin behind it.
abbrev mutual
  pub root_from : ℕ → ShownTree → ℕ
  root_from next (shown_leaf shown) = next
  root_from next (shown_node production children) = behind next children

  -- the number behind those of trees that stand one after the other
  pub behind : ℕ → ShownForest → ℕ
  behind next no_shown = next
  behind next (more_shown tree forest) = behind (root_from next tree + 1) forest

-- the numbers of the roots of such trees
abbrev pub roots_from : ℕ → ShownForest → List ℕ
roots_from next no_shown = []
roots_from next (more_shown tree forest) = root_from next tree ∷ roots_from (root_from next tree + 1) forest

-- The parts of a tree, children first and from left to right, each once for each place where it
-- occurs.
abbrev mutual
  pub parts_from : ℕ → ShownTree → List Part
  parts_from next (shown_leaf shown) = leaf_part shown ∷ []
  parts_from next (shown_node production children) = all_parts_from next children ++ node_part production (roots_from next children) ∷ []

  pub all_parts_from : ℕ → ShownForest → List Part
  all_parts_from next no_shown = []
  all_parts_from next (more_shown tree forest) = parts_from next tree ++ all_parts_from (root_from next tree + 1) forest

-- The answer that a result has at its only configuration: the parts of the tree and no fault, or no
-- tree and this one fault.
pub data IsPlainAnswer (answer : Answer tree_parts) (config : List ℕ) : Result ShownTree Fault → Type 0 where
  tree_alone : (tree : ShownTree) → answer.body.parts ≡ parts_from 0 tree → answer.body.root ≡ Some (root_from 0 tree) → answer.faults ≡ [] → IsPlainAnswer answer config (Ok tree)
  fault_alone : (test : Condition) (fault : Fault) → answer.body.parts ≡ [] → answer.body.root ≡ None → answer.faults ≡ (test, fault) ∷ [] → test config ≡ true
      → IsPlainAnswer answer config (Err fault)
