use Rattle.sc_scope.proofs.scopes.Scopes.pop.Goals as goal

pub returns-clause-numbered : goal.returns-clause-numbered
returns-clause-numbered c = λ numbers numbered. c.in_ok-self.ensures.numbered _ numbered
