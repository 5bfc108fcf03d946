-- What a definition changes.
use Rattle.std.specs.Prelude.{◌≡◌, ℕ, ◌&&◌, ◌↔◌, not, Bool, true, false, List, [], ◌∷◌, Option, Some, None, Contains, slice_get, if◌then◌else◌}
use Rattle.c11_macros.specs.Macros.{Definition}

-- what was defined, what of it is not the same as this, and whether it was the same
pub data Splits (this : Definition) : List Definition → List Definition → Bool → Type 0 where
  none : Splits this [] [] false
  same : Splits this (this ∷ []) [] true
  other : (was : Definition) → (was ≡ this → ⊥) → Splits this (was ∷ []) (was ∷ []) false

-- a macro that is defined, and not as this
abbrev pub IsOther : Definition → Option Definition → Type 0
IsOther this None = ⊥
IsOther this (Some was) = was ≡ this → ⊥

-- This is defined where it is live and nothing else was defined. It is refused where it is live and
-- something else was.
pub record Redefines (this : Definition) (was : List Definition) (live refused : Bool) (now : List Definition) : Type 0 where
  pub refuses : (refused ≡ true) ↔ ((live ≡ true) × IsOther this (slice_get was 0))
  pub defines : now ≡ (if live && not refused then this ∷ [] else was)

-- the place of an item, or none where it is none of these
abbrev pub FindsSame : List Definition → Definition → Option ℕ → Type 0
FindsSame definitions this None = Contains definitions this → ⊥
FindsSame definitions this (Some i) = slice_get definitions i ≡ Some this
