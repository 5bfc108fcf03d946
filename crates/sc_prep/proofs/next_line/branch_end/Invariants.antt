use Rattle.std.proofs.Common.{length, ◌-◌, ◌≤◌, List}
use Rattle.c11_directives.specs.Lines as model
use Rattle.sc_prep.proofs.Terms.{PassesOver, StandFor}
use Rattle.sc_prep.proofs.next_line.branch_end.Given as goal

abbrev pub invariant-loop-number : goal.invariant-loop-number
invariant-loop-number l = record {
  over : (ms : List model.Line) → StandFor ms l.lines → PassesOver ms l.first l.number;
  within : l.number ≤ length l.lines;
}

abbrev pub decreases-loop-number : goal.decreases-loop-number
decreases-loop-number l = length l.lines - l.number
