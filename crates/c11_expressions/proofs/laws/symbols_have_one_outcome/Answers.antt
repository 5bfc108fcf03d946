use Rattle.c11_expressions.proofs.Reading.{one_outcome}
use Rattle.c11_expressions.proofs.laws.symbols_have_one_outcome.Goals as goal

pub returns : goal.returns
returns c = one_outcome
