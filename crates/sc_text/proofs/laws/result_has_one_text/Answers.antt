use Rattle.sc_text.proofs.OneText.{one_text}
use Rattle.sc_text.proofs.laws.result_has_one_text.Goals as goal

pub returns : goal.returns
returns c = λ kind space p q a b. one_text
