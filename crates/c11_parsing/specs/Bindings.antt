-- What names stand for in nested scopes (C11 6.2.1), and what the reduction of a production does to
-- it.
use Rattle.std.specs.Prelude.{ℕ, zero, suc, Bool, List, [], ◌∷◌, ◌++◌, Option, Some, None, if◌then◌else◌}
use Rattle.lr_tables.specs.declared.grammar.Mark.{Mark}
use Rattle.lr_tables.specs.declared.grammar.Mark.TheVariants.{Push, PushParameters, Pop, Join, BindVariable, BindTypedef}
use Rattle.sc_model.specs.Bytes.{same_bytes}
use Rattle.c11_parsing.specs.Trees.{Tree, leaf, node, Forest, no_trees, trees}

-- ---- levels

pub data NameKind : Type 0 where
  variable : NameKind
  typedef : NameKind

pub record Binding : Type 0 where
  pub name : List ℕ
  pub kind : NameKind

-- the bindings of one scope, newest first
abbrev pub Level : Type 0
Level = List Binding

-- the first binding of the name in the level
abbrev pub first_in : List ℕ → Level → Option NameKind
first_in name [] = None
first_in name (b ∷ level) = if same_bytes b.name name then Some b.kind else first_in name level

abbrev pub or_else : Option NameKind → Option NameKind → Option NameKind
or_else None other = other
or_else (Some kind) other = Some kind

-- the first binding of the name from the top level down
abbrev pub innermost : List ℕ → List Level → Option NameKind
innermost name [] = None
innermost name (level ∷ levels) = or_else (first_in name level) (innermost name levels)

-- the name is bound in the top level
abbrev pub bind : NameKind → List ℕ → List Level → List Level
bind kind name [] = []
bind kind name (level ∷ levels) = (record { name = name; kind = kind } ∷ level) ∷ levels

-- the names are bound in order
abbrev pub bind_all : NameKind → List (List ℕ) → List Level → List Level
bind_all kind [] levels = levels
bind_all kind (name ∷ names) levels = bind_all kind names (bind kind name levels)

abbrev pub pop : List Level → List Level
pop [] = []
pop (level ∷ levels) = levels

-- the bindings of the top level are put before those of the level below, if there is one
abbrev pub join : List Level → List Level
join [] = []
join (top ∷ []) = top ∷ []
join (top ∷ (below ∷ levels)) = (top ++ below) ∷ levels

-- ---- names that a tree declares

-- How the declarators of a grammar are made (C11 6.7.6), by the numbers of its productions. A list
-- of parameters is an earlier list and one more parameter.
pub record Declarators : Type 0 where
  -- the child in which the declared name is found
  pub declarator : ℕ → Option ℕ
  -- the child in which the parameters stand, where the node declares a function
  pub parameters : ℕ → Option ℕ
  -- a parameter with a name
  pub is_parameter : ℕ → Bool
  -- the children in which the earlier parameters stand, and the last one
  pub earlier : ℕ → Option ℕ
  pub last : ℕ → Option ℕ

-- the name that a declarator declares
abbrev mutual
  pub declared : Declarators → Tree → List (List ℕ)
  declared d (leaf token) = token.spelling ∷ []
  declared d (node p children) = declared_in d (d.declarator p) children

  -- the name that the child at this place declares
  pub declared_in : Declarators → Option ℕ → Forest → List (List ℕ)
  declared_in d None forest = []
  declared_in d (Some n) no_trees = []
  declared_in d (Some zero) (trees tree forest) = declared d tree
  declared_in d (Some (suc n)) (trees tree forest) = declared_in d (Some n) forest

-- the name of a parameter
abbrev pub parameter : Declarators → Tree → List (List ℕ)
parameter d (leaf token) = []
parameter d (node p children) = if d.is_parameter p then declared d (node p children) else []

abbrev pub parameter_in : Declarators → Option ℕ → Forest → List (List ℕ)
parameter_in d None forest = []
parameter_in d (Some n) no_trees = []
parameter_in d (Some zero) (trees tree forest) = parameter d tree
parameter_in d (Some (suc n)) (trees tree forest) = parameter_in d (Some n) forest

-- the names of the parameters in a list of them, in order
abbrev mutual
  pub listed : Declarators → Tree → List (List ℕ)
  listed d (leaf token) = []
  listed d (node p children) =
      listed_in d (d.earlier p) children ++ (if d.is_parameter p then declared d (node p children) else parameter_in d (d.last p) children)

  pub listed_in : Declarators → Option ℕ → Forest → List (List ℕ)
  listed_in d None forest = []
  listed_in d (Some n) no_trees = []
  listed_in d (Some zero) (trees tree forest) = listed d tree
  listed_in d (Some (suc n)) (trees tree forest) = listed_in d (Some n) forest

-- the parameters of a node, or else those that were met above it
abbrev pub parameters_or : Declarators → Option ℕ → Forest → List (List ℕ) → List (List ℕ)
parameters_or d None children met = met
parameters_or d (Some n) children met = listed_in d (Some n) children

-- the parameters of the function declarator that is met last on the way to the declared name
abbrev mutual
  pub parameters_below : Declarators → Tree → List (List ℕ) → List (List ℕ)
  parameters_below d (leaf token) met = met
  parameters_below d (node p children) met = parameters_in d (d.declarator p) children (parameters_or d (d.parameters p) children met)

  pub parameters_in : Declarators → Option ℕ → Forest → List (List ℕ) → List (List ℕ)
  parameters_in d None forest met = met
  parameters_in d (Some n) no_trees met = met
  parameters_in d (Some zero) (trees tree forest) met = parameters_below d tree met
  parameters_in d (Some (suc n)) (trees tree forest) met = parameters_in d (Some n) forest met

-- ---- reductions

abbrev pub declared_by : Declarators → Option Tree → List (List ℕ)
declared_by d None = []
declared_by d (Some tree) = declared d tree

abbrev pub parameters_by : Declarators → Option Tree → List (List ℕ)
parameters_by d None = []
parameters_by d (Some tree) = parameters_below d tree []

-- what a reduction that made the tree does to the levels
abbrev pub marked : Declarators → Option Mark → Option Tree → List Level → List Level
marked d None tree levels = levels
marked d (Some Push) tree levels = [] ∷ levels
marked d (Some PushParameters) tree levels = bind_all variable (parameters_by d tree) ([] ∷ levels)
marked d (Some Pop) tree levels = pop levels
marked d (Some Join) tree levels = join levels
marked d (Some BindVariable) tree levels = bind_all variable (declared_by d tree) levels
marked d (Some BindTypedef) tree levels = bind_all typedef (declared_by d tree) levels
