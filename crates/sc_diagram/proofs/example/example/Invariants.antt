use Rattle.sc_diagram.proofs.ExampleLemmas.{LeadsTo}
use Rattle.sc_diagram.proofs.example.example.Given as goal

abbrev pub decreases-loop-at : goal.decreases-loop-at
decreases-loop-at l = l.at

abbrev pub invariant-loop-at : goal.invariant-loop-at
invariant-loop-at l = LeadsTo l.table l.fn.node l.at l.into
