use Rattle.std.proofs.Common.{◌&&◌, take}
use Rattle.sc_prep.proofs.Terms.{Denotes, Keeps, has_none}
use Rattle.sc_prep.proofs.settling.without_faults.Given as goal

abbrev pub invariant-loop-fault : goal.invariant-loop-fault
invariant-loop-fault g l =
    let sets = g.C.Conditions.sets in
    record {
      keeps : Keeps (sets l.fn.conds) (sets l.conds);
      without : Denotes (sets l.conds) l.left.0 (λ c. (sets l.fn.conds).has l.fn.all.0 c && has_none (sets l.fn.conds) (take l.fault-index l.faults) c);
    }
