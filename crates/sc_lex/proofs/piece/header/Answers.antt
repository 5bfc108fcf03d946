use Rattle.std.proofs.Common.{◌∙◌}
use Rattle.sc_lex.proofs.Best.{header_here, no_header_here}
use Rattle.sc_lex.proofs.piece.header.Goals as goal

pub returns-then-expects : goal.returns-then-expects
returns-then-expects c = λ line is. header_here line c.args.text.now _ (is ∙ c.if-expects.true) c.header.ensures

pub returns-else-expects : goal.returns-else-expects
returns-else-expects c = λ line is. no_header_here line c.args.text.now (is ∙ c.if-expects.false)
