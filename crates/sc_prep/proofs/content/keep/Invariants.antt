use Rattle.std.proofs.Common.{length, ◌+◌, ◌-◌}
use Rattle.sc_prep.proofs.Terms.{ReadsSame}
use Rattle.sc_prep.proofs.content.keep.Given as goal

abbrev pub invariant-loop-readings : goal.invariant-loop-readings
invariant-loop-readings l = ReadsSame l.fn.readings.items l.readings.items

abbrev pub decreases-loop-readings : goal.decreases-loop-readings
decreases-loop-readings l = l.file.0 + 1 - length l.readings.items
