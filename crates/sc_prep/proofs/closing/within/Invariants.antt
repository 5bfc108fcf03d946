use Rattle.std.proofs.Common.{take}
use Rattle.sc_prep.proofs.Terms.{IsWithin, Keeps}
use Rattle.sc_prep.proofs.closing.within.Given as goal

abbrev pub invariant-loop-index : goal.invariant-loop-index
invariant-loop-index g l = record {
  within : IsWithin (g.C.Conditions.sets l.fn.conds) (take l.index l.items) ((g.C.Conditions.sets l.fn.conds).has l.by.0) (g.C.Conditions.sets l.conds) l.kept;
  keeps : Keeps (g.C.Conditions.sets l.fn.conds) (g.C.Conditions.sets l.conds);
}
