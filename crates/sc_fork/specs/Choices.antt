-- The choices of a store of trees.
use Rattle.std.specs.Prelude.{◌≡◌, ◌<◌, ℕ, true, List, ◌++◌, length, slice_get, Some, All, AllPairs}
use Rattle.std.specs.List.{Contains}
use Rattle.sc_base.specs.declared.id.Cond.{Cond}
use Rattle.sc_base.specs.declared.id.Name.{Name}
use Rattle.sc_base.specs.declared.id.TreeId.{TreeId}
use Rattle.sc_base.specs.declared.place.Place.{Place}
use Rattle.sc_base.specs.declared.token.Token.{Token}
use Rattle.sc_model.specs.Sets.{Sets, IsConfig, IsNever}
use Rattle.sc_tree.specs.Lines.{Line, choice, leaf}

-- no configuration has both conditions
abbrev pub AreDisjoint : Sets → ℕ → ℕ → Type 0
AreDisjoint sets a b = (c : List ℕ) → IsConfig sets.arities c → sets.has a c ≡ true → sets.has b c ≡ true → ⊥

-- There are at least two branches, their conditions disjoint and satisfiable.
pub record IsSoundChoice (sets : Sets) (branches : List (Cond × TreeId)) : Type 0 where
  pub some : 1 < length branches
  pub apart : AllPairs (λ a b. AreDisjoint sets a.0.0 b.0.0) branches
  pub possible : All (λ (branch : Cond × TreeId). IsNever sets branch.0.0 → ⊥) branches

-- each choice of the store is such a one
pub record AreSound (sets : Sets) (lines : List Line) : Type 0 where
  pub each : (i : ℕ) (branches : List (Cond × TreeId)) → slice_get lines i ≡ Some (choice branches) → IsSoundChoice sets branches

-- each leaf that is added is that of a token of the list
pub record AddsLeaves (list : List (Cond × Token)) (old new : List Line) : Type 0 where
  pub added : List Line
  pub is : new ≡ old ++ added
  pub leaves : (i : ℕ) (place : Place) (spelling : Name) → slice_get added i ≡ Some (leaf place spelling)
      → (item : Cond × Token) × (Contains list item × (item.1.place ≡ place × item.1.spelling ≡ spelling))

-- none of the lines that are added is a choice
pub record AddsNoChoices (old new : List Line) : Type 0 where
  pub added : List Line
  pub is : new ≡ old ++ added
  pub none : (i : ℕ) (branches : List (Cond × TreeId)) → slice_get added i ≡ Some (choice branches) → ⊥
