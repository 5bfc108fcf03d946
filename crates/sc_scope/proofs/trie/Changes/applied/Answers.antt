use Rattle.sc_scope.proofs.trie.Changes.applied.Goals as goal

pub branch-numbers-requires-clause-left : goal.branch-numbers-requires-clause-left
branch-numbers-requires-clause-left c = c.in_ok-left.ensures.numbered _ c.requires.changes.0 c.requires.left

pub branch-numbers-requires-clause-right : goal.branch-numbers-requires-clause-right
branch-numbers-requires-clause-right c = c.in_ok-right.ensures.numbered _ c.requires.changes.1 c.requires.right
