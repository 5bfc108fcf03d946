-- A store of trees as a list of lines, whose indexes are the ids.
use Rattle.std.specs.Prelude.{◌≡◌, ℕ, ◌<◌, ◌⊎◌, List, [], ◌∷◌, ◌++◌, map, Some, slice_get, All}
use Rattle.sc_base.specs.declared.id.Cond.{Cond}
use Rattle.sc_base.specs.declared.id.Name.{Name}
use Rattle.sc_base.specs.declared.id.TreeId.{TreeId}
use Rattle.sc_base.specs.declared.place.Place.{Place}
use Rattle.sc_model.specs.Sets.{Sets, IsCond}

pub data Line : Type 0 where
  -- a token, by its place and spelling
  leaf : Place → Name → Line
  -- a production, by its number, and the children from left to right
  node : ℕ → List TreeId → Line
  -- the branches, each under its condition
  choice : List (Cond × TreeId) → Line

abbrev pub children_of : Line → List TreeId
children_of (leaf place spelling) = []
children_of (node production children) = children
children_of (choice branches) = map (λ (branch : Cond × TreeId). branch.1) branches

abbrev pub branches_of : Line → List (Cond × TreeId)
branches_of (leaf place spelling) = []
branches_of (node production children) = []
branches_of (choice branches) = branches

-- each tree stands after those below it
pub record ChildrenFirst (lines : List Line) : Type 0 where
  pub each : (i : ℕ) (line : Line) → slice_get lines i ≡ Some line → All (λ child. child.0 < i) (children_of line)

-- the line is added, or nothing is
abbrev pub AddsAtMost : List Line → List Line → Line → Type 0
AddsAtMost old new line = (new ≡ old) ⊎ (new ≡ old ++ line ∷ [])

-- the conditions of the branches are the store's
pub record OwnsBranches (sets : Sets) (lines : List Line) : Type 0 where
  pub each : (i : ℕ) (line : Line) → slice_get lines i ≡ Some line
      → All (λ (branch : Cond × TreeId). IsCond sets branch.0.0) (branches_of line)
