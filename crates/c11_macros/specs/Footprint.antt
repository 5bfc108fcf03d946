-- What the expansion of one name of a list used: tokens behind the name, and definitions.
use Rattle.std.specs.Prelude.{◌≡◌, ℕ, nat_le, ◌-◌, Bool, true, false, List, [], ◌∷◌, ◌++◌, length, drop, Result, if◌then◌else◌}
use Rattle.c11_macros.specs.Expansion.{Expands}
use Rattle.c11_macros.specs.Hidden.{Hidden, Provenance, Failure}
use Rattle.c11_macros.specs.Macros.{Macros}
use Rattle.c11_macros.specs.Trace.{Use, stands, looks_up, takes, fails, trace}

pub record Footprint : Type 0 where
  -- how many tokens of the list are left behind those that it took
  pub left : ℕ
  -- the names that it looked up
  pub looked_up : List (List ℕ)
  -- it has no answer
  pub fails : Bool

abbrev pub with_names : List (List ℕ) → Footprint → Footprint
with_names names f = record f { looked_up = names ++ f.looked_up }

-- What was used up to where only so many tokens of the list are left, and nothing that replaced a
-- name. A call that no parenthesis closes takes nothing.
abbrev pub footprint_from : ℕ → List Use → Footprint
footprint_from left [] = record { left = left; looked_up = []; fails = false }
footprint_from left (stands n ∷ uses) = if nat_le n left then record { left = left; looked_up = []; fails = false } else footprint_from left uses
footprint_from left (looks_up names ∷ uses) = with_names names (footprint_from left uses)
footprint_from left (takes n ∷ uses) = footprint_from (if nat_le n left then n else left) uses
footprint_from left (fails ∷ uses) = record { left = left; looked_up = []; fails = true }

-- the footprint of the name that stands first
abbrev pub footprint : {P : Type 0} {provenance : Provenance P} {macros : Macros} {t : Hidden P} {rest : List (Hidden P)} {r : Result (List (Hidden P)) (Failure P)}
    → Expands provenance macros (t ∷ rest) r → Footprint
footprint {rest} d = footprint_from (length rest) (trace d).uses

-- The expansion of the first list comes to the second: the names before it were expanded, each
-- with an answer, and took nothing of it.
pub data Arrives {P : Type 0} (provenance : Provenance P) (macros : Macros) (ts : List (Hidden P)) : List (Hidden P) → Type 0 where
  begins : Arrives provenance macros ts ts
  goes_on : {t : Hidden P} {rest : List (Hidden P)} {r : Result (List (Hidden P)) (Failure P)} → Arrives provenance macros ts (t ∷ rest)
      → (d : Expands provenance macros (t ∷ rest) r) → (footprint d).fails ≡ false → Arrives provenance macros ts (drop (length rest - (footprint d).left) rest)
