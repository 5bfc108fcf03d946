use Rattle.sc_diagram.specs.Applied.{IsKnown}
use Rattle.sc_diagram.specs.Grown.{Grows}
use Rattle.sc_diagram.proofs.SimplifiedLemmas.{WidensBelow}
use Rattle.sc_diagram.proofs.simplify.widened.Given as goal

abbrev pub invariant-loop-option : goal.invariant-loop-option
invariant-loop-option l = record {
  grows : Grows l.fn.table l.table;
  known : IsKnown l.table l.known;
  widens : WidensBelow l.table l.node l.variable l.option l.wider;
}
