-- The parts of a list as the table of texts lets them be seen.
use Rattle.std.specs.Prelude.{ℕ, ◌==◌, ◌||◌, Bool, true, false, List, [], ◌∷◌, ◌++◌, Option, Some, None, if◌then◌else◌}
use Rattle.std.specs.List.{list_any}
use Rattle.c11_macros.specs.Substitution as substitution
use Rattle.c11_macros.specs.Substitution.{is_paste_next}
use Rattle.sc_macro.specs.Seen.{IsHeldItem, seen_item}
use Rattle.sc_subst.specs.declared.parts.Before.{Before}
use Rattle.sc_subst.specs.declared.parts.Before.TheVariants as before
use Rattle.sc_subst.specs.declared.parts.Joint.{Joint}
use Rattle.sc_subst.specs.declared.parts.Joint.TheVariants as joint
use Rattle.sc_subst.specs.declared.parts.ListPart.{ListPart}
use Rattle.sc_subst.specs.declared.parts.ListPart.TheVariants as part

abbrev pub seen_before : Before → substitution.Before
seen_before before.Neither = substitution.neither
seen_before before.Paste = substitution.after_paste
seen_before (before.Hash item) = substitution.after_hash item.space

abbrev pub seen_joint : Joint → substitution.Joint
seen_joint joint.Apart = substitution.apart
seen_joint joint.Paste = substitution.behind_paste
seen_joint joint.Comma = substitution.behind_comma

abbrev pub seen_list_part : List (List ℕ) → ListPart → substitution.Part
seen_list_part names (part.Token item) = substitution.token (seen_item names item)
seen_list_part names (part.Literal n hash) = substitution.literal n hash.space
seen_list_part names (part.Parameter n space) = substitution.parameter n space
seen_list_part names part.Paste = substitution.paste
seen_list_part names (part.Comma item n) = substitution.comma (seen_item names item) n

abbrev pub IsHeldListPart : List (List ℕ) → ListPart → Type 0
IsHeldListPart names (part.Token item) = IsHeldItem names item
IsHeldListPart names (part.Comma item n) = IsHeldItem names item
IsHeldListPart names _ = Unit {0}

abbrev pub is_paste_part : ListPart → Bool
is_paste_part part.Paste = true
is_paste_part _ = false

-- the parameter that a part is, where it is neither behind # nor beside ##
abbrev pub place_of : Bool → substitution.Part → List substitution.Part → Option ℕ
place_of behind (substitution.parameter n space) ps = if behind || is_paste_next ps then None else Some n
place_of behind p ps = None

abbrev pub with_one_more : List ℕ → Option ℕ → List ℕ
with_one_more ns None = ns
with_one_more ns (Some n) = if list_any (λ m. m == n) ns then ns else ns ++ n ∷ []
