use Rattle.std.proofs.Common.{[]}
use Rattle.sc_expand.proofs.PlainTurns.{reaches-end, reaches-fail, reaches-leads, reaches-start}
use Rattle.sc_expand.proofs.Terms.{scanning}
use Rattle.sc_expand.proofs.laws.steps_give_the_expansion.Goals as goal

pub returns-clause-list : goal.returns-clause-list
returns-clause-list g c = λ provenance macros list out leads. reaches-end provenance macros list out (reaches-leads provenance macros list (scanning [] list) (scanning out []) (reaches-start provenance macros list) leads)

pub returns-clause-failure : goal.returns-clause-failure
returns-clause-failure g c = λ provenance macros list s failure leads fails. reaches-fail provenance macros list s failure (reaches-leads provenance macros list (scanning [] list) s (reaches-start provenance macros list) leads) fails
