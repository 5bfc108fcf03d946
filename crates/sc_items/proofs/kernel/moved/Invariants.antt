use Rattle.std.proofs.Common.{take}
use Rattle.sc_items.proofs.Opening.{RowsSoFar}
use Rattle.sc_items.proofs.kernel.moved.Given as goal

abbrev pub invariant-loop-item : goal.invariant-loop-item
invariant-loop-item l = RowsSoFar l.grammar (take l.item-index l.items) l.rows.items
