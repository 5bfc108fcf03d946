use Rattle.c11_tokens.proofs.SomeAnswer.{lexed-some}
use Rattle.c11_tokens.proofs.laws.lexing_has_an_answer.Goals as goal

pub returns : goal.returns
returns c = lexed-some
