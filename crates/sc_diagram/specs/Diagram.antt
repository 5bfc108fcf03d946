-- Decision diagrams: ordered, reduced, with shared nodes, and any number of options a variable.
use Rattle.std.specs.Prelude.{◌≡◌, ℕ, zero, suc, ◌<◌, ◌≤◌, ◌==◌, List, [], ◌∷◌, length, slice_get, slice_index, slice_index_or, Some}
use Rattle.sc_model.specs.Growth.{IsOneToOne}
use Rattle.sc_model.specs.Sets.{Sets, HasOptions}

-- a variable, and for each of its options the node for what remains there
pub record Branch : Type 0 where
  pub variable : ℕ
  pub children : List ℕ

abbrev pub branch : ℕ → List ℕ → Branch
branch variable children = record { variable = variable; children = children }

-- how many options each variable has, and the nodes: first the ends never and always, then those
-- that decide by a variable
pub record Diagram : Type 0 where
  pub arities : List ℕ
  pub nodes : List Branch

-- an end stands after all variables, and leads to itself
abbrev pub end_at : List ℕ → ℕ → Branch
end_at arities n = branch (length arities) (n ∷ [])

-- the ends never and always
abbrev pub ends_over : List ℕ → List Branch
ends_over arities = end_at arities 0 ∷ end_at arities 1 ∷ []

abbrev pub branch_of : Diagram → ℕ → Branch
branch_of d n = slice_index_or d.nodes n (end_at d.arities n)

abbrev pub variable_of : Diagram → ℕ → ℕ
variable_of d n = (branch_of d n).variable

abbrev pub child_of : Diagram → ℕ → ℕ → ℕ
child_of d n option = slice_index (branch_of d n).children option

-- the child for the option that the configuration has
abbrev pub next : Diagram → List ℕ → ℕ → ℕ
next d c n = child_of d n (slice_index c (variable_of d n))

-- the node that so many steps lead to
abbrev pub walk : ℕ → Diagram → List ℕ → ℕ → ℕ
walk zero d c n = n
walk (suc steps) d c n = walk steps d c (next d c n)

-- a node has a configuration where its steps end at always; a child has a lower number, so n steps
-- are enough
abbrev pub sets_of : Diagram → Sets
sets_of d = record {
  arities = d.arities;
  count = length d.nodes;
  has = λ n c. walk n d c n == 1;
}

-- the node n decides by a variable, between children that decide by later ones and are not all the
-- same
pub record IsDecision (d : Diagram) (n : ℕ) (b : Branch) : Type 0 where
  pub within : b.variable < length d.arities
  pub wide : length b.children ≡ slice_index d.arities b.variable
  pub lower : (k : ℕ) → k < length b.children → slice_index b.children k < n
  pub ordered : (k : ℕ) → k < length b.children → b.variable < variable_of d (slice_index b.children k)
  pub reduced : ((k : ℕ) → k < length b.children → slice_index b.children k ≡ slice_index b.children 0) → ⊥

-- the two ends and decisions, no two alike
pub record IsDiagram (d : Diagram) : Type 0 where
  pub options : HasOptions d.arities
  pub never : slice_get d.nodes 0 ≡ Some (end_at d.arities 0)
  pub always : slice_get d.nodes 1 ≡ Some (end_at d.arities 1)
  pub decisions : (n : ℕ) → 2 ≤ n → n < length d.nodes → IsDecision d n (branch_of d n)
  pub different : IsOneToOne d.nodes
