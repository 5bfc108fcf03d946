use Rattle.std.proofs.Common.{◌≡◌, [], take}
use Rattle.sc_guarded.specs.Items.{faults_at}
use Rattle.sc_core.proofs.summaries.is_refused.Given as goal

abbrev pub invariant-loop-fault : goal.invariant-loop-fault
invariant-loop-fault g l = faults_at (g.C.Conditions.sets l.conds) (take l.fault-index l.faults) l.config ≡ []
