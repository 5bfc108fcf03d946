-- Substitution in two halves: a template, which asks nothing of what the arguments expand to, and
-- the arguments, put in where each of those that are wanted expands (C11 6.10.3.1).
use Rattle.std.specs.Prelude.{ℕ, List, Contains, Result}
use Rattle.c11_macros.specs.Hidden.{Hidden, HideSet, Provenance, Failure}
use Rattle.c11_macros.specs.Results.{result_map}
use Rattle.c11_macros.specs.Substitution.{Slot, hiding, with_space}
use Rattle.sc_subst.specs.declared.part.Part as declared
use Rattle.sc_subst.specs.declared.part.Part.TheVariants as part
use Rattle.sc_subst.specs.Parts.{filled_in}

-- the parameter of each argument that is still to be expanded is one of these
abbrev pub IsWantedPart : List ℕ → declared.Part → Type 0
IsWantedPart wanted (part.Token t) = Unit {0}
IsWantedPart wanted (part.Argument n space) = Contains wanted n

-- ---- both halves

-- What becomes of a macro's name where the arguments expand to these lists: the failure of the
-- template, or the template with its arguments put in.
abbrev pub completed : {P : Type 0} → Provenance P → Hidden P → HideSet → List (List (Hidden P)) → Result (List (Slot P)) (Failure P) → Result (List (Hidden P)) (Failure P)
completed provenance head names expanded template = result_map (λ ss. hiding provenance names (with_space head.space (filled_in expanded ss))) template
