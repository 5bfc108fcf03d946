use Rattle.sc_expand.proofs.SettledEnds.{held-closed, settles-closed}
use Rattle.sc_expand.proofs.laws.settled_list_closes.Goals as goal

pub returns-clause-settled : goal.returns-clause-settled
returns-clause-settled g c = λ provenance macros list done rest settles. settles-closed provenance macros settles

pub returns-clause-held : goal.returns-clause-held
returns-clause-held g c = λ provenance macros list failure holds. held-closed provenance macros holds
