use Rattle.c11_expressions.proofs.PartLemmas.{has_part}
use Rattle.c11_expressions.proofs.laws.expressions_have_parts.Goals as goal

pub returns : goal.returns
returns c = has_part
