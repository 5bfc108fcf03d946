use Rattle.sc_fork.proofs.reducing.marked_scopes.Goals as goal

pub returns-in_default-clause-numbered : goal.returns-in_default-clause-numbered
returns-in_default-clause-numbered g c = c.in_ok-scopes.ensures.numbered c.args.numbers.now (rw (← c.parent.view_is) at c.requires.numbered)

pub change_scopes-requires-clause-numbered : goal.change_scopes-requires-clause-numbered
change_scopes-requires-clause-numbered g c = c.in_ok-scopes.ensures.numbered c.args.numbers.now (rw (← c.parent.view_is) at c.requires.numbered)
