use Rattle.std.proofs.Common.{◌+◌, ◌-◌, ◌^◌, length}
use Rattle.sc_items.specs.Kernel.{AreEmpty, lists}
use Rattle.sc_items.proofs.Searching.{Searched}
use Rattle.sc_items.proofs.search.states.Given as goal

abbrev pub invariant-search : goal.invariant-search
invariant-search l = Searched l.grammar (lists l.kernels.keys) l.rows.items × AreEmpty (l.grammar.terminals + l.grammar.nonterminals) l.next.items

abbrev pub decreases-search : goal.decreases-search
decreases-search l = 2 ^ 64 - length l.rows.items
