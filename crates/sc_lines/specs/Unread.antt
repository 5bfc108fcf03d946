-- The sections that are open at a line of a file that is read from its end: for each the line of
-- its next branch and the one that closes it, the innermost first.
use Rattle.std.specs.Prelude.{ℕ, List, [], ◌∷◌, Option, Some, None}
use Rattle.sc_lines.specs.declared.line.Branch.{Branch}
use Rattle.c11_directives.specs.declared.directive.Conditional.{Conditional}
use Rattle.c11_directives.specs.declared.directive.Conditional.TheVariants.{Opening, Alternative, Else, Endif}

abbrev pub innermost : List Branch → Option Branch
innermost [] = None
innermost (section ∷ sections) = Some section

abbrev pub others : List Branch → List Branch
others [] = []
others (section ∷ sections) = sections

-- the innermost section has its next branch here
abbrev pub branch_here : ℕ → List Branch → List Branch
branch_here line [] = []
branch_here line (section ∷ sections) = record { next = line; close = section.close } ∷ sections

-- the branch that a line begins, where these sections are open behind it
abbrev pub branch_at : List Branch → Option Conditional → Option Branch
branch_at sections (Some (Opening test)) = innermost sections
branch_at sections (Some (Alternative test)) = innermost sections
branch_at sections (Some Else) = innermost sections
branch_at sections (Some Endif) = None
branch_at sections None = None

-- the sections that are open before a line, where these are open behind it
abbrev pub sections_at : ℕ → List Branch → Option Conditional → List Branch
sections_at line sections (Some (Opening test)) = others sections
sections_at line sections (Some (Alternative test)) = branch_here line sections
sections_at line sections (Some Else) = branch_here line sections
sections_at line sections (Some Endif) = record { next = line; close = line } ∷ sections
sections_at line sections None = sections
