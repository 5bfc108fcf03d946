use Rattle.std.proofs.Common.{length, ◌-◌}
use Rattle.sc_lex.proofs.UnclosedLemmas.{Seeks}
use Rattle.sc_lex.proofs.unclosed.unclosed_front.Given as goal

abbrev pub invariant-loop-length : goal.invariant-loop-length
invariant-loop-length l = Seeks l.quote l.text l.length

abbrev pub decreases-loop-length : goal.decreases-loop-length
decreases-loop-length l = length l.text - l.length
