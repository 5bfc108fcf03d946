use Rattle.std.proofs.Common.{◌≡◌}
use Rattle.sc_expand.proofs.Terms.{indexes_from}
use Rattle.sc_expand.proofs.first_calls.indexes_to.Given as goal

abbrev pub invariant-loop-index : goal.invariant-loop-index
invariant-loop-index l = l.made.items ≡ indexes_from 0 l.index
