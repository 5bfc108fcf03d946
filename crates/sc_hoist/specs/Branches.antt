-- Branches, and how many are wanted.
use Rattle.std.specs.Prelude.{◌≡◌, ℕ, ◌+◌, ◌≤◌, true, List, [], ◌∷◌, All, AllPairs, length, if◌then◌else◌}
use Rattle.sc_base.specs.declared.stop.Stop.{Stop}
use Rattle.sc_base.specs.declared.stop.Stop.TheVariants.{BranchesFull, ReadFault, OutOfMemory}
use Rattle.sc_hoist.specs.declared.branch.Branch.{Branch}
use Rattle.sc_model.specs.Sets.{Sets, IsConfig, IsCond, IsNever}

-- the places of each branch that has the configuration
abbrev pub lists_at : Sets → List Branch → List ℕ → List (List ℕ)
lists_at s [] c = []
lists_at s (branch ∷ branches) c = if s.has branch.cond.0 c then branch.places.items ∷ lists_at s branches c else lists_at s branches c

-- each branch has a configuration, and no two have equal places
pub record AreBranches (s : Sets) (branches : List Branch) : Type 0 where
  pub own : All (λ branch. IsCond s branch.cond.0) branches
  pub some : All (λ branch. IsNever s branch.cond.0 → ⊥) branches
  pub apart : AllPairs (λ a b. a.places.items ≡ b.places.items → ⊥) branches

-- the condition has at least so many configurations of which no two have equal lists
pub record HasLists (s : Sets) (cond : ℕ) (list : List ℕ → List ℕ) (count : ℕ) : Type 0 where
  pub configs : List (List ℕ)
  pub many : count ≤ length configs
  pub listed : All (λ c. IsConfig s.arities c) configs
  pub has : All (λ c. s.has cond c ≡ true) configs
  pub apart : AllPairs (λ a b. list a ≡ list b → ⊥) configs

-- why there is no answer: more different lists than the limit, or no memory
abbrev pub Refuses : Sets → ℕ → (List ℕ → List ℕ) → ℕ → Stop → Type 0
Refuses s cond list limit (BranchesFull count) = (count ≡ limit + 1) × HasLists s cond list (limit + 1)
Refuses s cond list limit ReadFault = ⊥
Refuses s cond list limit OutOfMemory = Unit {0}
