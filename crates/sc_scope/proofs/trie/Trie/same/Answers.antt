use Rattle.std.proofs.lemmas.Bool.{eqb-true}
use Rattle.sc_scope.proofs.NumberLemmas.{one-level}
use Rattle.sc_scope.proofs.trie.Trie.same.Goals as goal

pub returns-in-Full-other : goal.returns-in-Full-other
returns-in-Full-other c = λ same made. rw (c.in-Full.is, c.in-Full-other.is) (λ here there. one-level made _ _ _ _ (eqb-true _ _ same) here.0 there.0)
