-- The sections that are open at a line, and what its directive makes of them.
use Rattle.std.specs.Prelude.{Bool, true, false, List, [], ◌∷◌, Option, Some, None, if◌then◌else◌}
use Rattle.c11_directives.specs.declared.directive.Conditional.{Conditional}
use Rattle.c11_directives.specs.declared.directive.Conditional.TheVariants.{Opening, Alternative, Else, Endif}

-- the open sections, the innermost first: for each its first line, or a name of it, and whether its
-- #else has come
abbrev pub Sections : Type 0 → Type 0
Sections H = List (H × Bool)

abbrev pub closes_section : {H : Type 0} → Sections H → Option (Sections H)
closes_section [] = None
closes_section (s ∷ ss) = Some ss

abbrev pub next_branch : {H : Type 0} → Bool → Sections H → Option (Sections H)
next_branch is_last [] = None
next_branch is_last (s ∷ ss) = if s.1 then None else Some ((s.0, is_last) ∷ ss)

-- the sections after a line, if it may stand there
abbrev pub nest_by : {H : Type 0} → H → Sections H → Option Conditional → Option (Sections H)
nest_by line ss None = Some ss
nest_by line ss (Some (Opening test)) = Some ((line, false) ∷ ss)
nest_by line ss (Some (Alternative test)) = next_branch false ss
nest_by line ss (Some Else) = next_branch true ss
nest_by line ss (Some Endif) = closes_section ss
