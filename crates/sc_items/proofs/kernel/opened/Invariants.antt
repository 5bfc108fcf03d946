use Rattle.sc_items.proofs.Opening.{IsOpenedBelow}
use Rattle.sc_items.proofs.kernel.opened.Given as goal

abbrev pub invariant-loop-item : goal.invariant-loop-item
invariant-loop-item l = IsOpenedBelow l.grammar l.item l.rows.items
