-- The sets of a store: each is the list of the names that it has.
use Rattle.std.specs.Prelude.{◌≡◌, ℕ, ◌<◌, List, [], length, slice_get, slice_index_or, Some, All}
use Rattle.sc_base.specs.declared.id.Name.{Name}
use Rattle.sc_model.specs.Growth.{IsOneToOne}
use Rattle.sc_subst.specs.Rising.{IsRising, has_name}

abbrev pub set_at : List (List Name) → ℕ → List Name
set_at sets hide = slice_index_or sets hide []

-- each set is kept once, the empty one first
pub record IsStore (sets : List (List Name)) : Type 0 where
  pub one : IsOneToOne sets
  pub rising : All IsRising sets
  pub first : slice_get sets 0 ≡ Some []

-- sets with the same names are one
pub record IsCanonical (sets : List (List Name)) : Type 0 where
  pub one : (a b : ℕ) → a < length sets → b < length sets → ((name : Name) → has_name (set_at sets a) name ≡ has_name (set_at sets b) name) → a ≡ b
