use Rattle.lr_tables.specs.Grammar.{IsStart}
use Rattle.sc_items.specs.Kernel.{IsListOf}
use Rattle.sc_items.proofs.kernel.start.Given as goal

abbrev pub invariant-loop-item : goal.invariant-loop-item
invariant-loop-item l = IsListOf l.item (IsStart l.grammar) l.items.items
