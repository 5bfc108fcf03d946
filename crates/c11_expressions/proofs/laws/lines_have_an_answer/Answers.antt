use Rattle.c11_expressions.proofs.OneLine.{some_line}
use Rattle.c11_expressions.proofs.laws.lines_have_an_answer.Goals as goal

pub returns : goal.returns
returns g c = λ standard provenance macros names within hash ts. some_line {standard = standard} hash provenance macros names within ts
