use Rattle.c11_expressions.proofs.Evaluating.{has_result}
use Rattle.c11_expressions.proofs.laws.tokens_have_a_result.Goals as goal

pub returns : goal.returns
returns c = has_result
