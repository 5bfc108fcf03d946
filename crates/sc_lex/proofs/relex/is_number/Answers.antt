use Rattle.c11_tokens.specs.Lex.{is_number}
use Rattle.sc_lex.proofs.Relexing.{whole_front}
use Rattle.sc_lex.proofs.relex.is_number.Goals as goal

pub returns : goal.returns
returns c = whole_front is_number c.args.bytes.now c.number.result c.requires c.number.ensures
