use Rattle.std.proofs.Common.{take}
use Rattle.sc_items.specs.Reach.{Marks}
use Rattle.sc_items.proofs.reach.reach.Given as goal

abbrev pub invariant-loop-node : goal.invariant-loop-node
invariant-loop-node l = Marks l.initial.reached.items l.reached.items l.initial.pending.items l.pending.items (take l.node-index l.nodes)
