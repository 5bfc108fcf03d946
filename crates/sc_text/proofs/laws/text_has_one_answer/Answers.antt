use Rattle.sc_text.proofs.TextLaws.{reads-unique}
use Rattle.sc_text.proofs.laws.text_has_one_answer.Goals as goal

pub returns : goal.returns
returns c = λ kind space p q a b. reads-unique
