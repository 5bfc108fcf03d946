use Rattle.sc_items.specs.States.{kernels_of}
use Rattle.sc_lalr.proofs.Deciding.{RowSoFar}
use Rattle.sc_lalr.proofs.construction.action_row.Given as goal

abbrev pub invariant-loop-terminal : goal.invariant-loop-terminal
invariant-loop-terminal l = RowSoFar l.grammar (kernels_of l.states) l.state l.terminal l.row.items l.conflicts.items
