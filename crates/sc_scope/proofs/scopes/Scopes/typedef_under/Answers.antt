use Rattle.sc_scope.proofs.SearchLemmas.{found_all}
use Rattle.sc_scope.proofs.scopes.Scopes.typedef_under.Goals as goal

pub returns-clause-meaning : goal.returns-clause-meaning
returns-clause-meaning g c = found_all _ _ c.args.cond c.never.result _ _ c.never.ensures.meaning c.in_ok-found.ensures.found
