use Rattle.sc_model.specs.Bytes.{has_no_newline}
use Rattle.sc_lex.proofs.Fronts.{Becomes}
use Rattle.sc_lex.proofs.scan.line_length.Given as goal

abbrev pub invariant-loop-i : goal.invariant-loop-i
invariant-loop-i l = Becomes has_no_newline has_no_newline l.text l.i
