use Rattle.sc_text.proofs.TextLaws.{result-unique}
use Rattle.sc_text.proofs.laws.answer_has_one_result.Goals as goal

pub returns : goal.returns
returns c = λ kind answer config r s. result-unique answer config r s
