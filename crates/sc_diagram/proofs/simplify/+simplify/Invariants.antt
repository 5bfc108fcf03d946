use Rattle.std.proofs.Common.{◌≡◌, ◌-◌, length}
use Rattle.sc_diagram.specs.Applied.{IsKnown}
use Rattle.sc_diagram.specs.Grown.{Grows}
use Rattle.sc_diagram.specs.Simplified.{AreAnswers, first_asked}
use Rattle.sc_diagram.proofs.SimplifiedLemmas.{AreForOptions}
use Rattle.sc_diagram.proofs.simplify.+simplify.Given as goal

-- as deep as there are variables
abbrev pub decreases-simplify : goal.decreases-simplify
decreases-simplify l = length l.table.now.arities - first_asked l.table.now l.asked

abbrev pub invariant-loop-option : goal.invariant-loop-option
invariant-loop-option l = record {
  grows : Grows l.fn.table l.table;
  known : IsKnown l.table l.known;
  answers : AreAnswers l.table l.answers;
  full : length l.children.items ≡ l.option;
  each : AreForOptions l.table l.asked l.variable l.children.items;
}
