-- Levels under conditions, as what they are at a configuration.
use Rattle.std.specs.Prelude.{◌≡◌, ℕ, Bool, true, false, List, [], ◌∷◌, Option, Some, None, slice_get}
use Rattle.c11_parsing.specs.Bindings as plain
use Rattle.c11_parsing.specs.Bindings.{variable, typedef, first_in}
use Rattle.sc_guarded.specs.Items.{items_at}
use Rattle.sc_model.specs.Sets.{Sets}
use Rattle.sc_scope.specs.declared.kind.NameKind.{NameKind}
use Rattle.sc_scope.specs.declared.kind.NameKind.TheVariants.{Variable, Typedef}
use Rattle.sc_scope.specs.Levels.{Level}

abbrev pub kind_of : NameKind → plain.NameKind
kind_of Variable = variable
kind_of Typedef = typedef

abbrev pub first_kind : List NameKind → Option plain.NameKind
first_kind [] = None
first_kind (kind ∷ kinds) = Some (kind_of kind)

-- the kind is a typedef's
abbrev pub is_type : Option plain.NameKind → Bool
is_type None = false
is_type (Some variable) = false
is_type (Some typedef) = true

-- each name has the same first kind in both levels
pub record ShowsLevel (sets : Sets) (names : List (List ℕ)) (c : List ℕ) (level : Level) (bindings : plain.Level) : Type 0 where
  pub same : (name : ℕ) (text : List ℕ) → slice_get names name ≡ Some text → first_kind (items_at sets (level name) c) ≡ first_in text bindings

-- the levels show those of the configuration
pub data Shows (sets : Sets) (names : List (List ℕ)) (c : List ℕ) : List Level → List plain.Level → Type 0 where
  none_shown : Shows sets names c [] []
  more_shown : (level : Level) (bindings : plain.Level) (levels : List Level) (others : List plain.Level) → ShowsLevel sets names c level bindings
      → Shows sets names c levels others → Shows sets names c (level ∷ levels) (bindings ∷ others)
