-- The rows with which a core starts.
use Rattle.std.specs.Prelude.{List, [], ◌∷◌, Option, Some}
use Rattle.sc_base.specs.declared.id.Cond.{Cond}
use Rattle.sc_fork.specs.Owns.{IsFirst}
use Rattle.sc_merge.specs.declared.subparser.Subparser.{Subparser}
use Rattle.sc_model.specs.Sets.{Sets, IsNever}

-- the first subparser for the live configurations, where there are any
pub data AreFirst (sets : Sets) (live : Cond) : List (Option Subparser) → Type 0 where
  no_first : IsNever sets live.0 → AreFirst sets live []
  one_first : (s : Subparser) → (IsNever sets live.0 → ⊥) → IsFirst live s → AreFirst sets live (Some s ∷ [])
