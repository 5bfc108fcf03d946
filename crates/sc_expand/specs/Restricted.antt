-- Lists under a condition: what the configurations of it have there.
use Rattle.std.specs.Prelude.{◌≡◌, ℕ, ◌&&◌, ◌++◌, false, List, [], ◌∷◌}
use Rattle.sc_base.specs.declared.id.Cond.{Cond}
use Rattle.sc_model.specs.Sets.{Sets, IsConfig, Denotes, IsNever}
use Rattle.sc_subst.specs.declared.hidden.Hidden.{Hidden}

-- The list under `live` alone: each element has the configurations of `live` that it had, and is
-- left out where it had none.
pub data IsRestricted {T : Type 0} (s : Sets) (live : ℕ) : List (Cond × T) → List (Cond × T) → Type 0 where
  empty : IsRestricted s live [] []
  kept : (cond : Cond) (item : Cond × T) (list rest : List (Cond × T)) → Denotes s cond.0 (λ c. s.has item.0.0 c && s.has live c) → (IsNever s cond.0 → ⊥)
      → IsRestricted s live list rest → IsRestricted s live (item ∷ list) ((cond, item.1) ∷ rest)
  left_out : (item : Cond × T) (list rest : List (Cond × T)) → ((c : List ℕ) → IsConfig s.arities c → (s.has item.0.0 c && s.has live c) ≡ false)
      → IsRestricted s live list rest → IsRestricted s live (item ∷ list) rest

-- a token was added behind the others, unless no configuration has it
pub data IsPushed (s : Sets) (cond : Cond) (token : Hidden) (before after : List (Cond × Hidden)) : Type 0 where
  pushed : (IsNever s cond.0 → ⊥) → after ≡ before ++ (cond, token) ∷ [] → IsPushed s cond token before after
  absent : IsNever s cond.0 → after ≡ before → IsPushed s cond token before after
