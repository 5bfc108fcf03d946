use Rattle.sc_merge.proofs.merged.merged_scopes.Goals as goal

pub merge-requires-clause-numbered : goal.merge-requires-clause-numbered
merge-requires-clause-numbered g c = c.in_ok-scopes.ensures.numbered c.args.numbers.now c.requires.left_numbered
