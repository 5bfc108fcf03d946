use Rattle.c11_tokens.proofs.PlainLaws.{lexed-plain}
use Rattle.c11_tokens.proofs.laws.tokens_are_plain.Goals as goal

pub returns : goal.returns
returns c = lexed-plain
