use Rattle.std.proofs.Common.{take}
use Rattle.std.specs.Prelude.{All}
use Rattle.sc_model.specs.Sets.{IsNever}
use Rattle.sc_core.proofs.texts.has_fault.Given as goal

abbrev pub invariant-loop-fault : goal.invariant-loop-fault
invariant-loop-fault g l = All (λ f. IsNever (g.C.Conditions.sets l.conds) f.cond.0) (take l.fault-index l.faults)
