use Rattle.tests_trees.proofs.scope.checks_join.Goals as goal

pub bind-requires : goal.bind-requires
bind-requires g c =
    let numbers = c.new-numbers.result in
    c.push-2.ensures.numbered numbers (c.push.ensures.numbered numbers (c.new-scopes.ensures.numbered numbers))

pub join-requires : goal.join-requires
join-requires g c = c.in_ok-other.ensures.numbered c.bind.new.numbers c.bind.ensures.numbered
