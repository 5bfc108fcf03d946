use Rattle.sc_scope.proofs.TrieLemmas.{height}
use Rattle.sc_scope.proofs.trie.Trie.+before.Given as goal

abbrev pub decreases-before : goal.decreases-before
decreases-before l = height l.self.now
