use Rattle.c11_directives.proofs.DecidesLaws.{some_decision}
use Rattle.c11_directives.proofs.laws.conditionals_have_an_answer.Goals as goal

pub returns : goal.returns
returns c = some_decision
