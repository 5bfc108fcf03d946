use Rattle.std.specs.List.{list_all}
use Rattle.c11_tokens.specs.Lex.{is_blank}
use Rattle.sc_lex.proofs.Fronts.{Becomes}
use Rattle.sc_lex.proofs.scan.blanks.Given as goal

abbrev pub invariant-loop-i : goal.invariant-loop-i
invariant-loop-i l = Becomes (list_all is_blank) (list_all is_blank) l.text l.i
