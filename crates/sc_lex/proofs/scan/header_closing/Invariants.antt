use Rattle.c11_tokens.specs.Lex.{header_closes}
use Rattle.sc_lex.proofs.Fronts.{Unmet}
use Rattle.sc_lex.proofs.scan.header_closing.Given as goal

abbrev pub invariant-loop-i : goal.invariant-loop-i
invariant-loop-i l = Unmet (header_closes l.end) (header_closes l.end) l.text l.i
