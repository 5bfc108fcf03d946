use Rattle.std.proofs.Common.{IsTrue}
use Rattle.sc_items.specs.Kernel.{IsListOf}
use Rattle.sc_items.specs.Reach.{marked}
use Rattle.sc_items.proofs.kernel.members.Given as goal

abbrev pub invariant-loop-item : goal.invariant-loop-item
invariant-loop-item l = IsListOf l.item (λ i. IsTrue (marked l.marks i)) l.items.items
