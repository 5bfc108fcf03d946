use Rattle.std.proofs.Common.{take}
use Rattle.sc_fork.specs.Bundles.{AreEnabled}
use Rattle.sc_fork.proofs.enabled.all_enabled.Given as goal

abbrev pub invariant-loop-at : goal.invariant-loop-at
invariant-loop-at l = AreEnabled l.source l.rows l.kind (take l.at l.members)
