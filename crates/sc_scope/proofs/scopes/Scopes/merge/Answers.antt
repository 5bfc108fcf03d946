use Rattle.sc_scope.proofs.NumberLemmas.{AreNumbered-Extends}
use Rattle.sc_scope.proofs.scopes.Scopes.merge.Goals as goal

pub returns-in_err-self-clause-numbered : goal.returns-in_err-self-clause-numbered
returns-in_err-self-clause-numbered g c = AreNumbered-Extends _ c.merged.ensures.grows c.requires.numbered
