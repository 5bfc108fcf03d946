use Rattle.sc_fork.proofs.enabled.with_number.Goals as goal

pub returns-in-Ok-clause-ok : goal.returns-in-Ok-clause-ok
returns-in-Ok-clause-ok c = rw c.head.ensures c.in-Ok.ensures.ok
