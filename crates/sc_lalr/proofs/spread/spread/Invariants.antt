use Rattle.std.proofs.Common.{◌+◌, length}
use Rattle.std.specs.List.{sum_by}
use Rattle.sc_lalr.specs.Marks.{room}
use Rattle.sc_lalr.proofs.Spreading.{Spreading}
use Rattle.sc_lalr.proofs.spread.spread.Given as goal

abbrev pub invariant-loop-node : goal.invariant-loop-node
invariant-loop-node l = Spreading l.edges l.initial.words.items l.words.items l.waiting.items

abbrev pub decreases-loop-node : goal.decreases-loop-node
decreases-loop-node l = sum_by room l.words.items + length l.waiting.items
