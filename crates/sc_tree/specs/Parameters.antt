-- The parameters of a function, from the trees that walks pass.
use Rattle.std.specs.Prelude.{◌≡◌, ℕ, ◌++◌, Bool, false, List, [], ◌∷◌, Option, Some, None, slice_get, if◌then◌else◌}
use Rattle.c11_parsing.specs.Bindings.{declared, parameter_in}
use Rattle.c11_parsing.specs.C11.{c11_declarators, parameters_child, is_parameter, last_child}
use Rattle.c11_parsing.specs.Trees as plain
use Rattle.c11_parsing.specs.Trees.{Tree}
use Rattle.sc_base.specs.declared.id.TreeId.{TreeId}
use Rattle.sc_tree.specs.Lines.{Line, leaf, node, choice}
use Rattle.sc_tree.specs.Reads.{Tables, Reads}
use Rattle.sc_tree.specs.Walks.{child_at, is_choice, listed}

-- ---- lists of parameters

-- the list at this place, or else the one that was met before
abbrev pub list_at : List TreeId → Option ℕ → List TreeId → List TreeId
list_at children None met = met
list_at children (Some n) met = listed (slice_get children n)

-- the list of a tree that declares a function, or else the one that was met before
abbrev pub list_of : Option Line → List TreeId → List TreeId
list_of None met = met
list_of (Some (leaf place spelling)) met = met
list_of (Some (node production children)) met = list_at children (parameters_child production) met
list_of (Some (choice branches)) met = met

-- the list of the first tree that declares a function
abbrev pub first_list : List Line → List TreeId → List TreeId → List TreeId
first_list lines [] met = met
first_list lines (id ∷ ids) met = list_of (slice_get lines id.0) (first_list lines ids met)

-- ---- the parameters of a list

-- the tree is a parameter with a name
abbrev pub is_named : Option Line → Bool
is_named None = false
is_named (Some (leaf place spelling)) = false
is_named (Some (node production children)) = is_parameter production
is_named (Some (choice branches)) = false

-- the last parameter of a list, or the tree itself where it is one
abbrev pub last_of : Line → TreeId → Option TreeId
last_of (leaf place spelling) id = None
last_of (node production children) id = if is_parameter production then Some id else child_at children (last_child production)
last_of (choice branches) id = None

-- the name of the last parameter
abbrev pub last_parameter : Tree → List (List ℕ)
last_parameter (plain.leaf token) = []
last_parameter (plain.node production children) =
    if is_parameter production then declared c11_declarators (plain.node production children)
    else parameter_in c11_declarators (last_child production) children

-- the id stands for a token or a node
pub record IsNoChoice (lines : List Line) (id : TreeId) : Type 0 where
  pub line : Line
  pub at : slice_get lines id.0 ≡ Some line
  pub plain : is_choice line ≡ false

-- the names of the last parameters of lists, in order
pub data AreParameters (w : Tables) (c : List ℕ) : List TreeId → List (List ℕ) → Type 0 where
  no_parameters : AreParameters w c [] []
  more_parameters : (id : TreeId) (tree : Tree) (ids : List TreeId) (texts : List (List ℕ)) → IsNoChoice w.lines id → Reads w c id.0 tree
      → AreParameters w c ids texts → AreParameters w c (id ∷ ids) (last_parameter tree ++ texts)
