use Rattle.std.proofs.Common.{◌+◌, length, not, count_by}
use Rattle.sc_items.proofs.Reaching.{Progress}
use Rattle.sc_items.proofs.reach.reachable.Given as goal

abbrev pub invariant-loop-node : goal.invariant-loop-node
invariant-loop-node l = Progress l.edges l.starts l.reached.items l.pending.items

abbrev pub decreases-loop-node : goal.decreases-loop-node
decreases-loop-node l = count_by not l.reached.items + length l.pending.items
