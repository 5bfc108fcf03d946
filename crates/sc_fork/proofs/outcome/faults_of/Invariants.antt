use Rattle.std.proofs.Common.{◌≡◌, take}
use Rattle.sc_fork.specs.Roots.{faults_of}
use Rattle.sc_fork.proofs.outcome.faults_of.Given as goal

abbrev pub invariant-loop-part : goal.invariant-loop-part
invariant-loop-part l = l.faults.items ≡ faults_of (take l.part-index l.ended)
