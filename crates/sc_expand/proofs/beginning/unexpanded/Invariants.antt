use Rattle.std.proofs.Common.{◌≡◌, [], All, length}
use Rattle.sc_expand.proofs.beginning.unexpanded.Given as goal

abbrev pub invariant-loop-index : goal.invariant-loop-index
invariant-loop-index l = (length l.made.items ≡ l._index) × All (λ list. list ≡ []) l.made.items
