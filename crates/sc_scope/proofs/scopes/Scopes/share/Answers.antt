use Rattle.sc_scope.proofs.scopes.Scopes.share.Goals as goal

pub returns-clause-numbered : goal.returns-clause-numbered
returns-clause-numbered c = λ numbers numbered. c.in_ok-share.ensures.numbered _ numbered
