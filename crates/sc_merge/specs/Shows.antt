-- A subparser at one configuration.
use Rattle.std.specs.Prelude.{ℕ, List, [], ◌∷◌, Option, Some, None}
use Rattle.c11_parsing.specs.Bindings as plain
use Rattle.c11_parsing.specs.Trees.{Tree}
use Rattle.sc_base.specs.declared.id.TreeId.{TreeId}
use Rattle.sc_merge.specs.declared.subparser.Subparser.{Subparser}
use Rattle.sc_scope.specs.Seen.{levels_in}
use Rattle.sc_scope.specs.Shows.{Shows}
use Rattle.sc_stack.specs.Entries.{values_of}
use Rattle.sc_tree.specs.Reads.{Tables, Reads}

-- the value stands for the tree, or there is none of either
pub data ValueReads (w : Tables) (c : List ℕ) : Option TreeId → Option Tree → Type 0 where
  silent_reads : ValueReads w c None None
  tree_reads : (id : TreeId) (tree : Tree) → Reads w c id.0 tree → ValueReads w c (Some id) (Some tree)

-- each value of the one list stands for the tree of the other
pub data ValuesRead (w : Tables) (c : List ℕ) : List (Option TreeId) → List (Option Tree) → Type 0 where
  no_values : ValuesRead w c [] []
  more_values : (value : Option TreeId) (values : List (Option TreeId)) (tree : Option Tree) (trees : List (Option Tree)) → ValueReads w c value tree
      → ValuesRead w c values trees → ValuesRead w c (value ∷ values) (tree ∷ trees)

-- the trees on the stack, the top first, and the levels that the subparser has at the configuration
pub record ShowsAt (w : Tables) (s : Subparser) (c : List ℕ) (trees : List (Option Tree)) (levels : List plain.Level) : Type 0 where
  pub values : ValuesRead w c (values_of s.stack) trees
  pub scopes : Shows w.sets w.names c (levels_in s.scopes) levels
