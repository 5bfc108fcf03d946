use Rattle.c11_tokens.proofs.LexLaws.{lexes-unique}
use Rattle.c11_tokens.proofs.laws.lexing_has_one_answer.Goals as goal

pub returns : goal.returns
returns c = λ bytes r s. lexes-unique
