use Rattle.std.proofs.Common.{length, ◌-◌}
use Rattle.c11_tokens.specs.Lex.{closes}
use Rattle.sc_lex.proofs.Fronts.{Unmet}
use Rattle.sc_lex.proofs.scan.closing.Given as goal

abbrev pub invariant-loop-length : goal.invariant-loop-length
invariant-loop-length l = Unmet (closes l.quote) (closes l.quote) l.text l.length

abbrev pub decreases-loop-length : goal.decreases-loop-length
decreases-loop-length l = length l.text - l.length
