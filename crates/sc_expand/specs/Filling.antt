-- What replaces a call at a configuration, step by step.
use Rattle.std.specs.Prelude.{◌≡◌, ℕ, Bool, List, [], ◌∷◌, ◌++◌, All, slice_index_or, if◌then◌else◌}
use Rattle.sc_base.specs.declared.id.Cond.{Cond}
use Rattle.sc_expand.specs.Seen.{IsHeldToken, Stores}
use Rattle.sc_guarded.specs.Items.{items_at}
use Rattle.sc_hoist.specs.Alike.{AreAlike}
use Rattle.sc_model.specs.Sets.{Sets, IsCond, IsConfig}
use Rattle.sc_subst.specs.declared.hidden.Hidden.{Hidden}
use Rattle.sc_subst.specs.declared.part.Part.{Part}
use Rattle.sc_subst.specs.declared.part.Part.TheVariants as part
use Rattle.sc_subst.specs.Parts.{first_spaced}

-- the token with this white space
abbrev pub spaced : Bool → Hidden → Hidden
spaced space t = record { token = record t.token { space = space }; hide = t.hide }

-- the list whose first token has this white space, where the test holds, and else nothing
abbrev pub first_spaced_if : Bool → Bool → List Hidden → List Hidden
first_spaced_if test space ts = if test then first_spaced space ts else []

-- the argument of a parameter, as it expanded
abbrev pub expanded_argument : List (List (Cond × Hidden)) → ℕ → List (Cond × Hidden)
expanded_argument expanded n = slice_index_or expanded n []

-- what a part of a template is at a configuration of the call; at another it is nothing
abbrev pub part_at : Sets → List (List (Cond × Hidden)) → Bool → List ℕ → Part → List Hidden
part_at s expanded called c (part.Token t) = if called then t ∷ [] else []
part_at s expanded called c (part.Argument n space) = first_spaced_if called space (items_at s (expanded_argument expanded n) c)

abbrev pub parts_at : Sets → List (List (Cond × Hidden)) → Bool → List ℕ → List Part → List Hidden
parts_at s expanded called c [] = []
parts_at s expanded called c (p ∷ ps) = part_at s expanded called c p ++ parts_at s expanded called c ps

-- the stores hold the tokens
abbrev pub AllHeld : Stores → ℕ → List (Cond × Hidden) → Type 0
AllHeld st files list = All (λ item. IsHeldToken st files item.1) list

-- A list has these tokens more at each configuration, behind those that it had. The stores hold
-- them where `Held` is so, and configurations for which `Alike` is so have the same of them.
pub record Adds (old new : Sets) (before after : List (Cond × Hidden)) (added : List ℕ → List Hidden) (Held : Stores → ℕ → Type 0) (Alike : List ℕ → List ℕ → Type 0) : Type 0 where
  pub own : All (λ item. IsCond new item.0.0) after
  pub is : (c : List ℕ) → IsConfig old.arities c → items_at new after c ≡ items_at old before c ++ added c
  pub held : (st : Stores) (files : ℕ) → Held st files → AllHeld st files before → AllHeld st files after
  pub alike : (c d : List ℕ) → IsConfig old.arities c → IsConfig old.arities d → Alike c d → AreAlike old c d before → AreAlike new c d after
