use Rattle.sc_scope.proofs.trie.Trie.+set.Given as goal

abbrev pub decreases-set : goal.decreases-set
decreases-set l = l.name
