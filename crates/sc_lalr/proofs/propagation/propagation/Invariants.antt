use Rattle.sc_items.specs.States.{kernels_of}
use Rattle.sc_lalr.proofs.Passing.{IsPropagationBelow}
use Rattle.sc_lalr.proofs.propagation.propagation.Given as goal

abbrev pub invariant-loop-node : goal.invariant-loop-node
invariant-loop-node l = IsPropagationBelow l.grammar (kernels_of l.states) l.nodes l.node l.rows.items
