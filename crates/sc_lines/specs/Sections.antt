-- The sections that are open, as the code keeps them.
use Rattle.std.specs.Prelude.{ℕ, List, map, reverse}
use Rattle.c11_directives.specs.Sections.{Sections}
use Rattle.sc_lines.specs.declared.section.Open.{Open}

-- the sections on a stack
abbrev pub sections_of : List Open → Sections ℕ
sections_of stack = map (λ section. (section.head, section.has_else)) (reverse stack)
