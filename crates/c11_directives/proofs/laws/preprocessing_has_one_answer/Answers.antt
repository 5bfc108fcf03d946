use Rattle.c11_directives.proofs.PreLaws.{pre-unique}
use Rattle.c11_directives.proofs.laws.preprocessing_has_one_answer.Goals as goal

pub returns : goal.returns
returns c = λ space files main config r s. pre-unique
