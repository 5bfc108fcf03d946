use Rattle.tests_conditions.proofs.guarded.checks_blocks.Goals as goal

pub follow_counted-requires-clause-own : goal.follow_counted-requires-clause-own
follow_counted-requires-clause-own g c = λ k d below. c.in_ok-blocks.ensures.keeps.own _ (c.in_ok-list.ensures.own k d below)
