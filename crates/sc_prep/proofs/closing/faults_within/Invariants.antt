use Rattle.std.proofs.Common.{take}
use Rattle.sc_prep.proofs.Terms.{IsWithin, Keeps, fault_items}
use Rattle.sc_prep.proofs.closing.faults_within.Given as goal

abbrev pub invariant-loop-fault : goal.invariant-loop-fault
invariant-loop-fault g l = record {
  within : IsWithin (g.C.Conditions.sets l.fn.conds) (fault_items (take l.fault-index l.faults)) ((g.C.Conditions.sets l.fn.conds).has l.by.0) (g.C.Conditions.sets l.conds) (fault_items l.kept.items);
  keeps : Keeps (g.C.Conditions.sets l.fn.conds) (g.C.Conditions.sets l.conds);
}
