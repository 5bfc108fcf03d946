use Rattle.std.proofs.Common.{sym, ◌∙◌}
use Rattle.sc_lex.proofs.Lines.{same_bytes-is}
use Rattle.sc_lex.proofs.line.is.Goals as goal

pub returns : goal.returns
returns c = c.eq.ensures ∙ sym (same_bytes-is c.args.spelling.now c.args.text.now)
