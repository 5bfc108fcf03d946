use Rattle.sc_scope.proofs.TrieLemmas.{height}
use Rattle.sc_scope.proofs.trie.Trie.+merge.Given as goal

abbrev pub decreases-merge : goal.decreases-merge
decreases-merge g l = height l.self.now
