-- Operations on the sets of a store, and what they make.
use Rattle.std.specs.Prelude.{◌≡◌, ◌<◌, ◌&&◌, ◌||◌, Bool, List, Contains, length}
use Rattle.std.specs.List.{list_any}
use Rattle.sc_base.specs.declared.id.Name.{Name}
use Rattle.sc_subst.specs.declared.hidden.Hide.{Hide}
use Rattle.sc_subst.specs.declared.set_operation.SetOperation.{SetOperation}
use Rattle.sc_subst.specs.declared.set_operation.SetOperation.TheVariants.{With, Meet, Union}
use Rattle.sc_subst.specs.Hides.{set_at}
use Rattle.sc_subst.specs.Rising.{has_name}

-- the store has the sets of the operation
abbrev pub IsSetOperation : List (List Name) → SetOperation → Type 0
IsSetOperation sets (With set name) = set.0 < length sets
IsSetOperation sets (Meet one two) = (one.0 < length sets) × (two.0 < length sets)
IsSetOperation sets (Union one two) = (one.0 < length sets) × (two.0 < length sets)

-- the set has the names that the operation makes
abbrev pub Makes : List (List Name) → SetOperation → List Name → Type 0
Makes sets (With set name) made = (test : Name → Bool) → list_any test made ≡ (list_any test (set_at sets set.0) || test name)
Makes sets (Meet one two) made = (name : Name) → has_name made name ≡ (has_name (set_at sets one.0) name && has_name (set_at sets two.0) name)
Makes sets (Union one two) made = (test : Name → Bool) → list_any test made ≡ (list_any test (set_at sets one.0) || list_any test (set_at sets two.0))

-- the set of the id is what the operation makes
pub record IsMade (sets : List (List Name)) (what : SetOperation) (made : Hide) : Type 0 where
  pub operation : IsSetOperation sets what
  pub own : made.0 < length sets
  pub makes : Makes sets what (set_at sets made.0)

-- each pair is an operation with what it makes
pub record AreMade (sets : List (List Name)) (known : List (SetOperation × Hide)) : Type 0 where
  pub each : (e : SetOperation × Hide) → Contains known e → IsMade sets e.0 e.1
