use Rattle.std.proofs.Common.{take}
use Rattle.sc_prep.proofs.Terms.{Keeps, RefusesEach}
use Rattle.sc_prep.proofs.walk.Walk.refuse_each.Given as goal

abbrev pub invariant-loop-fault : goal.invariant-loop-fault
invariant-loop-fault g l = record {
  refuses : RefusesEach (g.C.Conditions.sets l.fn.conds) l.fn.self (take l.fault-index l.faults) (g.C.Conditions.sets l.conds) l.self;
  keeps : Keeps (g.C.Conditions.sets l.fn.conds) (g.C.Conditions.sets l.conds);
}
