use Rattle.sc_items.proofs.Opening.{BeginningsBelow}
use Rattle.sc_items.proofs.kernel.beginnings.Given as goal

abbrev pub invariant-loop-item : goal.invariant-loop-item
invariant-loop-item l = BeginningsBelow l.grammar l.item l.rows.items
