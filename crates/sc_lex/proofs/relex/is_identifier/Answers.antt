use Rattle.c11_tokens.specs.Lex.{is_identifier}
use Rattle.sc_lex.proofs.Relexing.{whole_front}
use Rattle.sc_lex.proofs.relex.is_identifier.Goals as goal

pub returns : goal.returns
returns c = whole_front is_identifier c.args.bytes.now c.identifier.result c.requires c.identifier.ensures
