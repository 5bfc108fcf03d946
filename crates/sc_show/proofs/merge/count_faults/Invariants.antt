use Rattle.sc_show.proofs.FaultCounting.{AreCounted}
use Rattle.sc_show.proofs.merge.count_faults.Given as goal

abbrev pub invariant-loop-fault : goal.invariant-loop-fault
invariant-loop-fault g l = AreCounted (g.C.Conditions.sets l.conds) l.files l.faults l.fault-index l.different.items
