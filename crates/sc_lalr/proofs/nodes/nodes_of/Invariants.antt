use Rattle.std.proofs.Common.{[], take}
use Rattle.sc_items.specs.States.{kernels_of}
use Rattle.sc_lalr.proofs.Placing.{NodesBelow}
use Rattle.sc_lalr.proofs.nodes.nodes_of.Given as goal

abbrev pub invariant-loop-state : goal.invariant-loop-state
invariant-loop-state l = NodesBelow l.grammar (kernels_of l.states) l.state [] l.places.items l.numbers.items

abbrev pub invariant-loop-item : goal.invariant-loop-item
invariant-loop-item l = NodesBelow l.grammar (kernels_of l.states) l.state (take l.item-index l.item-items) l.places.items l.numbers.items
