-- Operations on nodes, and what they make.
use Rattle.std.specs.Prelude.{◌≡◌, ℕ, ◌<◌, ◌≤◌, ◌==◌, ◌&&◌, ◌||◌, not, Bool, List, Contains, Option, Some, ◌⊎◌, length, slice_index, slice_set, min, if◌then◌else◌}
use Rattle.sc_model.specs.Sets.{IsConfig}
use Rattle.sc_diagram.specs.Diagram.{Diagram, sets_of, variable_of, child_of}
use Rattle.sc_diagram.specs.declared.operation.Operation.{Operation}
use Rattle.sc_diagram.specs.declared.operation.Operation.TheVariants.{And, Or, Without, Negate, Part}
use Rattle.sc_diagram.specs.declared.operation.Application.{Application}

-- the set that an operation makes of two
abbrev pub combine : Operation → (List ℕ → Bool) → (List ℕ → Bool) → List ℕ → Bool
combine And f g c = f c && g c
combine Or f g c = f c || g c
combine Without f g c = f c && not (g c)
combine Negate f g c = not (f c)
combine (Part variable option) f g c = f (slice_set c variable option)

-- the variable has the option
pub record IsOption (arities : List ℕ) (variable option : ℕ) : Type 0 where
  pub within : variable < length arities
  pub in_range : option < slice_index arities variable

-- what an operation asks for
abbrev pub IsOperation : List ℕ → Operation → Type 0
IsOperation arities And = Unit {0}
IsOperation arities Or = Unit {0}
IsOperation arities Without = Unit {0}
IsOperation arities Negate = Unit {0}
IsOperation arities (Part variable option) = IsOption arities variable option

abbrev pub application : Operation → ℕ → ℕ → Application
application operation left right = record { operation = operation; left = left; right = right }

-- the operation and its nodes are there
pub record IsApplication (d : Diagram) (what : Application) : Type 0 where
  pub operation : IsOperation d.arities what.operation
  pub left : what.left < length d.nodes
  pub right : what.right < length d.nodes

-- r is what the operation makes of its nodes, and decides by no earlier variable than they do
pub record Applies (d : Diagram) (what : Application) (r : ℕ) : Type 0 where
  pub application : IsApplication d what
  pub own : r < length d.nodes
  pub from : (v : ℕ) → v ≤ variable_of d what.left → v ≤ variable_of d what.right → v ≤ variable_of d r
  pub at : (c : List ℕ) → IsConfig d.arities c → (sets_of d).has r c ≡ combine what.operation ((sets_of d).has what.left) ((sets_of d).has what.right) c

-- what remains of a node where a variable, none of an earlier one, has an option
abbrev pub cofactor : Diagram → ℕ → ℕ → ℕ → ℕ
cofactor d n variable option = if variable_of d n == variable then child_of d n option else n

-- the operation on what remains of both nodes
abbrev pub application_at : Diagram → Application → ℕ → ℕ → Application
application_at d what variable option = record {
  operation = what.operation;
  left = cofactor d what.left variable option;
  right = cofactor d what.right variable option;
}

-- for each of the first options of the variable, what the operation makes there
pub record AppliesEach (d : Diagram) (what : Application) (variable : ℕ) (results : List ℕ) : Type 0 where
  pub each : (k : ℕ) → k < length results → Applies d (application_at d what variable k) (slice_index results k)

-- each pair is an application with what it makes
pub record IsKnown (d : Diagram) (known : List (Option (Application × ℕ))) : Type 0 where
  pub each : (e : Application × ℕ) → Contains known (Some e) → Applies d e.0 e.1

-- no pair is kept
abbrev pub IsForgotten : {K : Type 0} → List (Option (K × ℕ)) → Type 0
IsForgotten {K} kept = (e : K × ℕ) → Contains kept (Some e) → ⊥

-- each pair was there, or is this one
pub record Adds {K : Type 0} (old new : List (Option (K × ℕ))) (key : K) (r : ℕ) : Type 0 where
  pub each : (e : K × ℕ) → Contains new (Some e) → Contains old (Some e) ⊎ ((e.0 ≡ key) × (e.1 ≡ r))

-- the node decides by a variable before the one that the operation fixes
abbrev pub IsBefore : Diagram → Operation → ℕ → Type 0
IsBefore d And n = Unit {0}
IsBefore d Or n = Unit {0}
IsBefore d Without n = Unit {0}
IsBefore d Negate n = Unit {0}
IsBefore d (Part variable option) n = variable_of d n < variable

-- the first variable by which the nodes decide
abbrev pub first_of : Diagram → Application → ℕ
first_of d what = min (variable_of d what.left) (variable_of d what.right)

-- the result can't be told from the first variables alone
pub record IsUndecided (d : Diagram) (what : Application) : Type 0 where
  pub inner : first_of d what < length d.arities
  pub before : IsBefore d what.operation what.left

-- one of two nodes, since one of them is absorbing or neutral, or since they are the same
pub data IsShort (left right absorbing neutral : ℕ) : ℕ → Type 0 where
  left_absorbs : left ≡ absorbing → IsShort left right absorbing neutral left
  right_neutral : right ≡ neutral → IsShort left right absorbing neutral left
  same : left ≡ right → IsShort left right absorbing neutral left
  right_absorbs : right ≡ absorbing → IsShort left right absorbing neutral right
  left_neutral : left ≡ neutral → IsShort left right absorbing neutral right

-- what the left node has and the right one has not, where one of them is an end or they are the
-- same
pub data IsRest (left right : ℕ) : ℕ → Type 0 where
  nothing : (left ≡ 0) ⊎ ((right ≡ 1) ⊎ (left ≡ right)) → IsRest left right 0
  whole : right ≡ 0 → IsRest left right left
