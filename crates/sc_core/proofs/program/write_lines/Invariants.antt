use Rattle.std.proofs.Common.{◌≤◌, length}
use Rattle.sc_core.proofs.Writing.{IsWritten}
use Rattle.sc_core.proofs.program.write_lines.Given as goal

abbrev pub invariant-loop-rest : goal.invariant-loop-rest
invariant-loop-rest g l = record {
  written : IsWritten l.text l.rest (g.K.Sink.log l.fn.out) (g.K.Sink.log l.out);
  counted : g.K.Sink.faults l.fn.out ≤ g.K.Sink.faults l.out;
}

abbrev pub decreases-loop-rest : goal.decreases-loop-rest
decreases-loop-rest g l = length l.rest
