use Rattle.c11_parsing.proofs.OneAnswer.{one_answer, one_way}
use Rattle.c11_parsing.proofs.laws.parsing_has_one_answer.Goals as goal

pub returns : goal.returns
returns c = record { way = one_way; answer = one_answer }
