use Rattle.sc_items.specs.Kernel.{AreEmpty}
use Rattle.sc_items.proofs.kernel.empty_rows.Given as goal

abbrev pub invariant-loop-row : goal.invariant-loop-row
invariant-loop-row l = AreEmpty l._row l.rows.items
