use Rattle.std.proofs.Common.{length, ◌-◌}
use Rattle.sc_subst.proofs.RisingLaws.{IsMerged}
use Rattle.sc_subst.proofs.sorted.union.Given as goal

abbrev pub invariant-loop-next : goal.invariant-loop-next
invariant-loop-next l = IsMerged l.made.items l.one l.two l.next l.name-index

abbrev pub decreases-loop-next : goal.decreases-loop-next
decreases-loop-next l = length l.one - l.next

abbrev pub invariant-loop-name : goal.invariant-loop-name
invariant-loop-name l = IsMerged l.made.items l.one l.two l.next l.name-index
