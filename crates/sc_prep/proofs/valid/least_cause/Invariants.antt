use Rattle.std.proofs.Common.{take}
use Rattle.sc_prep.proofs.valid.least_cause.Given as goal
use Rattle.sc_prep.specs.Valid.{FindsLeast}

abbrev pub invariant-loop-fault : goal.invariant-loop-fault
invariant-loop-fault g l = FindsLeast (g.C.Conditions.sets l.conds) (take l.fault-index l.faults) l.least
