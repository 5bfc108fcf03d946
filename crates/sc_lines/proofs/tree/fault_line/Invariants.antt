use Rattle.std.proofs.Common.{◌≡◌, map, List}
use Rattle.c11_directives.specs.Lines.{Line, conditional_in, conditional_of}
use Rattle.sc_lines.specs.Sections.{sections_of}
use Rattle.sc_lines.proofs.Judging.{Nests}
use Rattle.sc_lines.proofs.tree.fault_line.Given as goal

abbrev pub invariant-loop-i : goal.invariant-loop-i
invariant-loop-i l = (ms : List Line) → map conditional_of ms ≡ map (λ l. conditional_in l.directive) l.lines → Nests ms l.i (sections_of l.sections.items)
