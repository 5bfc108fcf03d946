use Rattle.sc_items.specs.States.{kernels_of}
use Rattle.sc_lalr.proofs.Looking.{AreLookaheadsBelow}
use Rattle.sc_lalr.proofs.lookahead.lookaheads.Given as goal

abbrev pub invariant-loop-block : goal.invariant-loop-block
invariant-loop-block l = AreLookaheadsBelow l.grammar (kernels_of l.states) l.nodes l.block l.rows.items
