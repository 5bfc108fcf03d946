use Rattle.sc_scope.proofs.TrieLemmas.{height}
use Rattle.sc_scope.proofs.trie.Trie.+narrowed.Given as goal

abbrev pub decreases-narrowed : goal.decreases-narrowed
decreases-narrowed g l = height l.self.now
