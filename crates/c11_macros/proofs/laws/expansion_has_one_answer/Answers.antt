use Rattle.c11_macros.proofs.OneAnswer.{one}
use Rattle.c11_macros.proofs.laws.expansion_has_one_answer.Goals as goal

pub returns : goal.returns
returns g c = λ provenance macros ts r s d. one d s
