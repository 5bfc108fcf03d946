use Rattle.std.proofs.Common.{length, ◌-◌}
use Rattle.c11_tokens.specs.Lex.{goes_on}
use Rattle.sc_lex.proofs.Fronts.{Becomes}
use Rattle.sc_lex.proofs.scan.letters.Given as goal

abbrev pub invariant-loop-length : goal.invariant-loop-length
invariant-loop-length l = Becomes (goes_on 0) (goes_on 0) l.text l.length

abbrev pub decreases-loop-length : goal.decreases-loop-length
decreases-loop-length l = length l.text - l.length
