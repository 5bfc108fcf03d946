use Rattle.c11_tokens.specs.Lex.{is_punctuator}
use Rattle.sc_lex.proofs.Relexing.{whole_front}
use Rattle.sc_lex.proofs.relex.is_punctuator.Goals as goal

pub returns : goal.returns
returns c = whole_front is_punctuator c.args.bytes.now c.punctuator.result c.requires c.punctuator.ensures
