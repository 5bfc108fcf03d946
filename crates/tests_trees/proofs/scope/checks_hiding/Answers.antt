use Rattle.tests_trees.proofs.scope.checks_hiding.Goals as goal

pub bind-requires : goal.bind-requires
bind-requires g c = c.push.ensures.numbered c.new-numbers.result (c.new-scopes.ensures.numbered c.new-numbers.result)

pub bind-requires-2 : goal.bind-requires-2
bind-requires-2 g c = c.push-2.ensures.numbered c.bind.new.numbers c.bind.ensures.numbered
