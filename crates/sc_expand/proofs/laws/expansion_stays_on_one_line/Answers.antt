use Rattle.sc_expand.proofs.PlainLines.{settles-on_one_line, stays-on_one_line}
use Rattle.sc_expand.proofs.TextLines.{text-stays_on_one_line}
use Rattle.sc_expand.proofs.laws.expansion_stays_on_one_line.Goals as goal

pub returns-clause-list : goal.returns-clause-list
returns-clause-list g c = λ provenance stands macros lists list out. stays-on_one_line provenance macros lists stands list out

pub returns-clause-settled : goal.returns-clause-settled
returns-clause-settled g c = λ provenance stands macros lists list done rest. settles-on_one_line provenance macros lists stands list done rest

pub returns-clause-text : goal.returns-clause-text
returns-clause-text g c = λ macros lists text output. text-stays_on_one_line macros lists text output
