use Rattle.std.proofs.Common.{take}
use Rattle.sc_lalr.proofs.Reducing.{EndsSoFar}
use Rattle.sc_lalr.proofs.reduction.ends.Given as goal

abbrev pub invariant-loop-item : goal.invariant-loop-item
invariant-loop-item l = EndsSoFar l.grammar (take l.item-index l.item-items) l.items.items
