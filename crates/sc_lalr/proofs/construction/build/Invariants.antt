use Rattle.sc_items.specs.States.{kernels_of}
use Rattle.sc_lalr.proofs.Tabling.{TablesSoFar}
use Rattle.sc_lalr.proofs.construction.build.Given as goal

abbrev pub invariant-loop-state : goal.invariant-loop-state
invariant-loop-state l = TablesSoFar l.grammar (kernels_of l.states) l.state l.actions.items l.gotos.items l.conflicts.items
