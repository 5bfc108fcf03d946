use Rattle.std.proofs.Common.{◌<◌, ◌-◌}
use Rattle.sc_prep.proofs.settling.is_due.Given as goal

abbrev pub invariant-loop-step : goal.invariant-loop-step
invariant-loop-step l = 0 < l.step

abbrev pub decreases-loop-step : goal.decreases-loop-step
decreases-loop-step l = l.gathered - l.step
