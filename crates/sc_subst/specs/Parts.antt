-- A replacement in the making: its slots, its template, and what fills it.
use Rattle.std.specs.Prelude.{All, ℕ, Bool, List, [], ◌∷◌, ◌++◌, map}
use Rattle.c11_macros.specs.Hidden as model
use Rattle.c11_macros.specs.Substitution as substitution
use Rattle.c11_macros.specs.Substitution.{argument, with_space}
use Rattle.sc_base.specs.declared.id.Name.{Name}
use Rattle.sc_base.specs.declared.place.Place.{Place}
use Rattle.sc_subst.specs.declared.hidden.Hidden.{Hidden}
use Rattle.sc_subst.specs.declared.part.Part.{Part}
use Rattle.sc_subst.specs.declared.part.Part.TheVariants as part
use Rattle.sc_subst.specs.declared.slots.Slot.{Slot}
use Rattle.sc_subst.specs.declared.slots.Slot.TheVariants as slot
use Rattle.sc_subst.specs.Seen.{IsHeldHidden, seen_hidden}

abbrev pub seen_list : List (List ℕ) → List (List Name) → List Hidden → List (model.Hidden Place)
seen_list names sets list = map (seen_hidden names sets) list

abbrev pub seen_arguments : List (List ℕ) → List (List Name) → List (List Hidden) → List (List (model.Hidden Place))
seen_arguments names sets lists = map (seen_list names sets) lists

abbrev pub AreHeldArguments : List (List ℕ) → List (List Name) → List (List Hidden) → Type 0
AreHeldArguments names sets lists = All (All (IsHeldHidden names sets)) lists

abbrev pub seen_slot : List (List ℕ) → List (List Name) → Slot → substitution.Slot Place
seen_slot names sets (slot.Token t) = substitution.filled_by (seen_hidden names sets t)
seen_slot names sets (slot.Parameter parameter space) = substitution.for_parameter parameter space
seen_slot names sets slot.Paste = substitution.for_paste

abbrev pub IsHeldSlot : List (List ℕ) → List (List Name) → Slot → Type 0
IsHeldSlot names sets (slot.Token t) = IsHeldHidden names sets t
IsHeldSlot names sets _ = Unit {0}

-- a part of a template as a slot
abbrev pub seen_part : List (List ℕ) → List (List Name) → Part → substitution.Slot Place
seen_part names sets (part.Token t) = substitution.filled_by (seen_hidden names sets t)
seen_part names sets (part.Argument parameter space) = substitution.for_parameter parameter space

abbrev pub IsHeldPart : List (List ℕ) → List (List Name) → Part → Type 0
IsHeldPart names sets (part.Token t) = IsHeldHidden names sets t
IsHeldPart names sets (part.Argument parameter space) = Unit {0}

-- the tokens of a template, with each argument put in, as it expands, where it is wanted
abbrev pub filled_in : {P : Type 0} → List (List (model.Hidden P)) → List (substitution.Slot P) → List (model.Hidden P)
filled_in expanded [] = []
filled_in expanded (substitution.filled_by t ∷ ss) = t ∷ filled_in expanded ss
filled_in expanded (substitution.for_parameter n space ∷ ss) = with_space space (argument expanded n) ++ filled_in expanded ss
filled_in expanded (substitution.for_paste ∷ ss) = filled_in expanded ss

-- the first token has this white space
abbrev pub first_spaced : Bool → List Hidden → List Hidden
first_spaced space [] = []
first_spaced space (t ∷ ts) = record { token = record t.token { space = space }; hide = t.hide } ∷ ts
