use Rattle.std.proofs.Common.{arith, rules, ap}
use Rattle.sc_scope.specs.Numbered.{IsNumbered, levels_made}
use Rattle.sc_scope.proofs.NumberLemmas.{IsNumbered-Extends}
use Rattle.sc_scope.proofs.TrieLemmas.{height}
use Rattle.sc_scope.proofs.trie.Trie.+before.Goals as goal

pub before-requires-in-Full-below-2 : goal.before-requires-in-Full-below-2
before-requires-in-Full-below-2 t c =
    let grows = c.before-in-Full-below.ensures.grows in
    let numbered : IsNumbered (levels_made c.before-in-Full-below.new.numbers) c.deref-in-Full-below-2.result.now = rw c.deref-in-Full-below-2.ensures (IsNumbered-Extends _ grows (rw c.in-Full.is at c.requires.numbered).1.1) in
    let below : IsNumbered (levels_made c.before-in-Full-below.new.numbers) c.deref-in-Full-below-3.result.now = rw c.deref-in-Full-below-3.ensures (IsNumbered-Extends _ grows (rw c.in-Full-below.is at c.requires.below_numbered).1.1) in
    (omega (arith, c.decreases, ap height c.in-Full.is, ap height c.deref-in-Full-below-2.ensures), (numbered, below))

pub branch-numbers-requires-clause-left : goal.branch-numbers-requires-clause-left
branch-numbers-requires-clause-left t c =
    rw c.in_ok-left-in-Full-below.ensures.ok (IsNumbered-Extends _ c.before-in-Full-below-3.ensures.grows c.in_ok-before-in-Full-below.ensures.numbered)
