use Rattle.std.proofs.Common.{length, ◌-◌, false}
use Rattle.c11_tokens.specs.Lex.{number_goes_on}
use Rattle.sc_lex.proofs.Fronts.{Becomes}
use Rattle.sc_lex.proofs.scan.number_letters.Given as goal

abbrev pub invariant-loop-length : goal.invariant-loop-length
invariant-loop-length l = Becomes (number_goes_on false 0) (number_goes_on l.exponent 0) l.text l.length

abbrev pub decreases-loop-length : goal.decreases-loop-length
decreases-loop-length l = length l.text - l.length
