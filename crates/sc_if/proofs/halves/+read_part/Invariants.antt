use Rattle.std.proofs.Common.{length}
use Rattle.sc_if.proofs.halves.+read_part.Given as goal

abbrev pub decreases-read_part : goal.decreases-read_part
decreases-read_part g l = length l.line.now
