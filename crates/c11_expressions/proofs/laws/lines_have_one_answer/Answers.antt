use Rattle.c11_expressions.proofs.OneLine.{one_line}
use Rattle.c11_expressions.proofs.laws.lines_have_one_answer.Goals as goal

pub returns : goal.returns
returns g c = λ standard provenance macros hash ts r s d e. one_line provenance macros ts r s d e
