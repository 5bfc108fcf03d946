-- Branches as far as their items were looked at.
use Rattle.std.specs.Prelude.{◌≡◌, ℕ, ◌++◌, ◌∷◌, [], ◌<◌, Bool, List, All, slice_index_or, if◌then◌else◌}
use Rattle.sc_base.specs.declared.id.Cond.{Cond}
use Rattle.sc_hoist.specs.declared.branch.Branch.{Branch}
use Rattle.sc_hoist.specs.declared.branch.Ends.TheVariants.{NoCall}
use Rattle.sc_model.specs.Sets.{Sets, IsCond, IsNever}

pub record AreLeaves (s : Sets) (branches : List Branch) : Type 0 where
  pub own : All (λ branch. IsCond s branch.cond.0) branches
  pub some : All (λ branch. IsNever s branch.cond.0 → ⊥) branches
  pub ends : All (λ branch. branch.ends ≡ NoCall) branches

-- each branch has a condition that was made, and a configuration
pub record AreMet (s : Sets) (branches : List Branch) : Type 0 where
  pub own : All (λ branch. IsCond s branch.cond.0) branches
  pub some : All (λ branch. IsNever s branch.cond.0 → ⊥) branches

-- each branch has both configurations or neither
pub record Agree (s : Sets) (branches : List Branch) (c d : List ℕ) : Type 0 where
  pub each : All (λ branch. s.has branch.cond.0 c ≡ s.has branch.cond.0 d) branches

-- a list of places, with one more where the item is had
abbrev pub placed : Bool → ℕ → List ℕ → List ℕ
placed had place list = if had then list ++ place ∷ [] else list

-- the first items tell the two configurations not apart
pub record SameBelow (s : Sets) (items : List Cond) (n : ℕ) (c d : List ℕ) : Type 0 where
  pub each : (k : ℕ) (x : Cond) → k < n → s.has (slice_index_or items k x).0 c ≡ s.has (slice_index_or items k x).0 d
