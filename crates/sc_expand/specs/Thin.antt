-- What a list settles to is thin: what configurations have the same of an item they have in one
-- element.
use Rattle.std.specs.Prelude.{◌≡◌, ℕ, ◌⊎◌, false, List, [], slice_get, Some}
use Rattle.c11_macros.specs.Expansion.{case_of, stays}
use Rattle.c11_macros.specs.Hidden.{Hidden, Provenance}
use Rattle.c11_macros.specs.Macros.{Macros}
use Rattle.c11_macros.specs.Runs.{is_last_name}
use Rattle.sc_base.specs.declared.id.Cond.{Cond}
use Rattle.sc_expand.specs.Spans.{ComesAt, IsItself, IsSpan, behind, indexes_at}
use Rattle.sc_model.specs.Sets.{Sets}

-- the n-th element that the configuration has of a list stands at this index
abbrev pub IsNth : {T : Type 0} → Sets → List (Cond × T) → List ℕ → (n index : ℕ) → Type 0
IsNth s list c n index = slice_get (indexes_at s list c) n ≡ Some index

module _ {T P : Type 0} (see : T → Hidden P) (provenance : Provenance P) (macros : List ℕ → Macros) (s : Sets) (list : List (Cond × T)) (at : ℕ) where
  -- the item stays as it is, and not as the name of a function-like macro
  pub record Stays (c : List ℕ) : Type 0 where
    pub comes : ComesAt see provenance macros s list at c
    pub is : case_of (macros c) (see comes.item.1) (behind see provenance macros s list at c) ≡ stays
    pub bare : is_last_name (macros c) (see comes.item.1) [] ≡ false

  -- both expand the item alike
  abbrev pub InSpan : List ℕ → List ℕ → Type 0
  InSpan c d = (size : ℕ) × IsSpan see provenance macros s list at size c d

  -- The n-th token that both put out for the item is one element where they expand it alike, or it
  -- stays at both; and so is the n-th that waits of it where they expand it alike, or the item
  -- itself waits at both.
  pub record IsThin (later : Sets) (out of : List (Cond × T)) (c d : List ℕ) : Type 0 where
    pub puts : (n i j : ℕ) → InSpan c d ⊎ (Stays c × Stays d) → IsNth later out c n i → IsNth later out d n j → i ≡ j
    pub waits : (n i j : ℕ) → InSpan c d ⊎ (IsItself see provenance macros s list at c × IsItself see provenance macros s list at d)
        → IsNth later of c n i → IsNth later of d n j → i ≡ j
