use Rattle.c11_expressions.proofs.PartLemmas.{one_part}
use Rattle.c11_expressions.proofs.laws.tokens_have_one_part.Goals as goal

pub returns : goal.returns
returns c = one_part
