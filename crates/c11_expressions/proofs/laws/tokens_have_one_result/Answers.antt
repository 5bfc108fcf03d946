use Rattle.c11_expressions.proofs.Evaluating.{one_result}
use Rattle.c11_expressions.proofs.laws.tokens_have_one_result.Goals as goal

pub returns : goal.returns
returns c = one_result
