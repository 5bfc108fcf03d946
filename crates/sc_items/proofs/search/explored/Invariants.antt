use Rattle.sc_items.specs.Kernel.{lists}
use Rattle.sc_items.proofs.Exploring.{Explored}
use Rattle.sc_items.proofs.Opening.{TakenBelow}
use Rattle.sc_items.proofs.search.explored.Given as goal

abbrev pub invariant-loop-symbol : goal.invariant-loop-symbol
invariant-loop-symbol l = Explored l.grammar (lists l.initial.kernels.keys) (lists l.kernels.keys) l.state l.symbol l.gotos.items × TakenBelow l.grammar l.members.items l.symbol l.next.items
