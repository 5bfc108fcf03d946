use Rattle.c11_directives.proofs.NestLaws.{tree-unique}
use Rattle.c11_directives.proofs.laws.nesting_has_one_answer.Goals as goal

pub returns : goal.returns
returns c = λ lines r s. tree-unique
