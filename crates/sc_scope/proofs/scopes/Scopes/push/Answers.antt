use Rattle.sc_scope.proofs.scopes.Scopes.push.Goals as goal

pub returns-clause-numbered : goal.returns-clause-numbered
returns-clause-numbered c = λ numbers numbered. (tt, rw c.in_ok-below.ensures.ok (c.in_ok-share.ensures.numbered _ numbered))
