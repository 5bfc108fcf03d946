use Rattle.std.proofs.Common.{◌≡◌, map, drop, reverse}
use Rattle.c11_directives.specs.Lines.{conditional_in}
use Rattle.sc_lines.specs.Branches.{without_branch}
use Rattle.sc_lines.proofs.Branching.{sections_from, branches_from}
use Rattle.sc_lines.proofs.branches.set_branches.Given as goal

abbrev pub invariant-loop-i : goal.invariant-loop-i
invariant-loop-i l = record {
  others : map without_branch l.lines ≡ map without_branch l.initial.lines;
  sections : reverse l.sections.items ≡ sections_from l.i (map (λ line. conditional_in line.directive) (drop l.i l.lines));
  branches : map (λ line. line.branch) (drop l.i l.lines) ≡ branches_from l.i (map (λ line. conditional_in line.directive) (drop l.i l.lines));
}
