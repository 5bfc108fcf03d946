use Rattle.std.proofs.Common.{◌∙◌, sym}
use Rattle.sc_tree.proofs.SameLines.{same_line, told_line}
use Rattle.sc_tree.proofs.line.is_same.Goals as goal

pub returns-clause-same : goal.returns-clause-same
returns-clause-same c = λ told. same_line c.args.a c.args.b (sym c.eq.ensures ∙ told)

pub returns-clause-told : goal.returns-clause-told
returns-clause-told c = λ same. c.eq.ensures ∙ told_line c.args.a c.args.b same
