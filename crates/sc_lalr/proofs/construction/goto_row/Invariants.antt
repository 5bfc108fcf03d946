use Rattle.sc_items.specs.States.{kernels_of}
use Rattle.sc_lalr.specs.Building.{AreGotos}
use Rattle.sc_lalr.proofs.construction.goto_row.Given as goal

abbrev pub invariant-loop-nonterminal : goal.invariant-loop-nonterminal
invariant-loop-nonterminal l = AreGotos l.grammar (kernels_of l.states) l.state l.nonterminal l.row.items
