use Rattle.std.proofs.Common.{arith}
use Rattle.sc_scope.proofs.NumberLemmas.{IsNumbered-Extends}
use Rattle.sc_scope.proofs.trie.Trie.+set.Goals as goal

pub branch-numbers-requires-clause-left : goal.branch-numbers-requires-clause-left
branch-numbers-requires-clause-left t c = (c.in_ok-left.ensures.numbered _ c.requires).0

pub branch-numbers-requires-clause-right : goal.branch-numbers-requires-clause-right
branch-numbers-requires-clause-right t c = (c.in_ok-left.ensures.numbered _ c.requires).1

pub set-requires : goal.set-requires
set-requires t c = (omega (arith, c.decreases, c.if-name-eq0.false), rw c.deref.ensures (c.in_ok-left.ensures.numbered _ c.requires).0)

pub branch-numbers-requires-then-name-eq0-2-clause-right : goal.branch-numbers-requires-then-name-eq0-2-clause-right
branch-numbers-requires-then-name-eq0-2-clause-right t c = IsNumbered-Extends _ c.set.ensures.grows (c.in_ok-left.ensures.numbered _ c.requires).1

pub set-requires-else-name-eq0-2 : goal.set-requires-else-name-eq0-2
set-requires-else-name-eq0-2 t c = (omega (arith, c.decreases, c.if-name-eq0.false), rw c.deref-else-name-eq0-2.ensures (c.in_ok-left.ensures.numbered _ c.requires).1)

pub branch-numbers-requires-else-name-eq0-2-clause-left : goal.branch-numbers-requires-else-name-eq0-2-clause-left
branch-numbers-requires-else-name-eq0-2-clause-left t c = IsNumbered-Extends _ c.set-else-name-eq0-2.ensures.grows (c.in_ok-left.ensures.numbered _ c.requires).0
